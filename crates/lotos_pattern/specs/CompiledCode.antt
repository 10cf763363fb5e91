-- How the views of compiled patterns are encoded.
use Rattle.std.specs.Prelude.{List, refl}
use Rattle.std.specs.Coded.{Coded, code_by, coded×, coded_list, coded_ℕ}
use Rattle.lotos_pattern.specs.PatternLabels.{Label}
use Rattle.lotos_pattern.specs.Patterns.{Pattern}
use Rattle.lotos_pattern.specs.NfaStates.{Place}
use Rattle.lotos_pattern.specs.CompiledPatterns.{CompiledView}
use Rattle.lotos_pattern.specs.contracts.pattern.Pattern as pattern_contract
use Rattle.lotos_pattern.specs.contracts.place.Place as place_contract

-- the encoding of compiled patterns
abbrev pub compiled_view_code : Coded CompiledView
compiled_view_code = code_by (Pattern × (List Label × List Place))
    (coded× pattern_contract.the_row.coded (coded× (coded_list (coded_list coded_ℕ))
    (coded_list place_contract.the_row.coded)))
    (λ c. (c.pattern, (c.labels, c.places))) (λ p. record { pattern = p.0; labels = p.1.0; places = p.1.1 }) (λ _. refl)
