-- One complete specification, and two: how they parse and fail, and that they are what their tokens spell.
use Rattle.std.proofs.Common.{◌≡◌, ℕ, max, List, [], ◌∷◌, ◌++◌, Some, None, refl, sym, ◌∙◌, ap, arith, subst}
use Rattle.std.proofs.lemmas.List.{append-nil}
use Rattle.lotos_text.specs.Grammar.{IsOfKind, a_specification, SpellsPair, SpellsSpecification}
use Rattle.lotos_text.specs.ParserContracts.{Phrase, NestingLimit, IsNestingWithin, Parses, Fails}
use Rattle.lotos_text.specs.Phrases.{OneToken, EndOfInput, DefinitionRest, CompleteDefinition, PairPhrase, SpecificationPhrase}
use Rattle.lotos_text.specs.AstView.{DefinitionView}
use Rattle.lotos_text.specs.declared.token.Token.{Token}
use Rattle.lotos_text.specs.declared.token.TokenKind.TheVariants.{Reserved}
use Rattle.lotos_text.specs.declared.token.Word.TheVariants as w
use Rattle.lotos_text.proofs.Definitions.{firm_definition, as_definition, from_definition, one_specification, unique_definition, within_both, within_first, within_second}
use Rattle.lotos_text.proofs.PhraseUniqueness.{lost_after}
use Rattle.lotos_text.proofs.OneToken.{found_preceded, lost_before, lost_preceded, found_nothing}
use Rattle.lotos_text.proofs.Sequences.{found_then, lost_first}
use Rattle.lotos_text.proofs.ParseErrors.{Carries}
use Rattle.lotos_text.proofs.ParseOutcome.{IsPhraseOf}

abbrev closed : DefinitionView → Unit {0} → DefinitionView
closed whole end = whole

abbrev both : DefinitionView → DefinitionView → DefinitionView × DefinitionView
both first second = (first, second)

module _ (text : List ℕ) where
  abbrev Complete : NestingLimit → Phrase DefinitionView
  Complete = CompleteDefinition text a_specification

  -- ---- a definition of a specification, whatever comes after it

  -- the first keyword and the rest of the definition are the definition
  pub found_complete : (limit : NestingLimit) (ts after rest : List Token) (n : Token) (whole : DefinitionView) → ts ≡ n ∷ after →
      IsOfKind n (Reserved w.SpecificationWord) → Parses (DefinitionRest text a_specification limit) after whole rest →
      Parses (Complete limit) ts whole rest
  found_complete limit ts after rest n whole e i f = found_preceded _ (DefinitionRest text a_specification limit) ts after rest n whole e i f

  -- if the first word fails, so does the definition
  pub lost_opening : (limit : NestingLimit) (ts rest : List Token) → Fails (OneToken (Reserved w.SpecificationWord)) ts rest →
      Fails (Complete limit) ts rest
  lost_opening limit ts rest l = lost_before _ (DefinitionRest text a_specification limit) ts rest l

  -- an error after the first keyword is an error of the definition
  pub carries_contents : (nesting_left : ℕ) (ts after : List Token) (n : Token) → ts ≡ n ∷ after → IsOfKind n (Reserved w.SpecificationWord) →
      Carries (DefinitionRest text a_specification) nesting_left after Complete nesting_left ts
  carries_contents nesting_left ts after n e i = record {
    free = λ rest l. lost_preceded _ (DefinitionRest text a_specification None) ts after rest n e i l;
    limited = λ rest l. lost_preceded _ (DefinitionRest text a_specification (Some nesting_left)) ts after rest n e i l;
    before = n ∷ [];
    joined = e;
    crowds = omega arith;
  }

  -- ---- one specification

  -- the definition, with nothing after it, is the specification
  pub found_whole : (limit : NestingLimit) (ts rest : List Token) (whole : DefinitionView) → Parses (Complete limit) ts whole rest → rest ≡ [] →
      Parses (SpecificationPhrase text limit) ts whole []
  found_whole limit ts rest whole f h = found_then closed (Complete limit) EndOfInput ts rest [] whole tt whole f
      (subst (λ m. Parses EndOfInput m tt []) (sym h) found_nothing) refl

  -- an error of the definition is an error of the specification
  pub carries_definition : (nesting_left : ℕ) (ts : List Token) → Carries Complete nesting_left ts (SpecificationPhrase text) nesting_left ts
  carries_definition nesting_left ts = record {
    free = λ rest l. lost_first closed (Complete None) EndOfInput ts rest l;
    limited = λ rest l. lost_first closed (Complete (Some nesting_left)) EndOfInput ts rest l;
    before = [];
    joined = refl;
    crowds = omega arith;
  }

  -- if tokens follow the definition, the specification fails
  pub lost_more : (found limit : NestingLimit) (ts between rest : List Token) (whole : DefinitionView) → Parses (Complete found) ts whole between →
      Fails EndOfInput between rest → Fails (SpecificationPhrase text limit) ts rest
  lost_more found limit ts between rest whole f l = lost_after closed Complete EndOfInput found limit
      (firm_definition text a_specification) ts between rest whole f l

  -- each spelling of a specification whose nesting is within the limit is the whole
  as_whole : (n : ℕ) (limit : NestingLimit) (ts : List Token) (whole : DefinitionView) → SpellsSpecification text n ts whole →
      IsNestingWithin limit n → SpecificationPhrase text limit ts whole []
  as_whole n limit ts whole d h = record {
    front = ts;
    back = [];
    one = whole;
    other = tt;
    joined = sym (append-nil ts);
    first = as_definition text limit [] d h;
    second = record { empty = refl; last = refl };
    same = refl;
  }

  -- the whole spells a specification whose nesting is within the limit
  from_whole : (limit : NestingLimit) (ts : List Token) (whole : DefinitionView) → SpecificationPhrase text limit ts whole [] →
      (n : ℕ) × SpellsSpecification text n ts whole × IsNestingWithin limit n
  from_whole limit ts whole t =
      let d = from_definition text limit t.front (t.back ++ []) t.one t.first in
      let tokens : ts ≡ t.front = t.joined ∙ ap (λ m. t.front ++ m) t.second.empty ∙ append-nil t.front in (
        d.0,
        subst (λ m. SpellsSpecification text d.0 m whole) (sym tokens) (subst (λ m. SpellsSpecification text d.0 t.front m) (sym t.same) d.1),
        d.2,
      )

  -- the phrase of a specification is what its tokens spell
  pub specification_is_phrase : IsPhraseOf (SpellsSpecification text) (SpecificationPhrase text)
  specification_is_phrase = record {
    as_whole = as_whole;
    from_whole = from_whole;
    one = λ ts n m whole other d e. (one_specification text ts n m whole other d e).0;
  }

  -- ---- two specifications

  -- a definition and then a specification are the two
  pub found_pair : (limit : NestingLimit) (ts between : List Token) (first second : DefinitionView) → Parses (Complete limit) ts first between →
      Parses (SpecificationPhrase text limit) between second [] → Parses (PairPhrase text limit) ts (first, second) []
  found_pair limit ts between first second f g = found_then both (Complete limit) (SpecificationPhrase text limit) ts between [] first second
      (first, second) f g refl

  -- an error of the first definition is an error of the two
  pub carries_first : (nesting_left : ℕ) (ts : List Token) → Carries Complete nesting_left ts (PairPhrase text) nesting_left ts
  carries_first nesting_left ts = record {
    free = λ rest l. lost_first both (Complete None) (SpecificationPhrase text None) ts rest l;
    limited = λ rest l. lost_first both (Complete (Some nesting_left)) (SpecificationPhrase text (Some nesting_left)) ts rest l;
    before = [];
    joined = refl;
    crowds = omega arith;
  }

  -- an error of the specification after the first definition is an error of the two
  pub carries_second : (found : NestingLimit) (nesting_left : ℕ) (ts between : List Token) (first : DefinitionView) →
      Parses (Complete found) ts first between → Carries (SpecificationPhrase text) nesting_left between (PairPhrase text) nesting_left ts
  carries_second found nesting_left ts between first f = record {
    free = λ rest l. lost_after both Complete (SpecificationPhrase text None) found None (firm_definition text a_specification) ts between rest
        first f l;
    limited = λ rest l. lost_after both Complete (SpecificationPhrase text (Some nesting_left)) found (Some nesting_left)
        (firm_definition text a_specification) ts between rest first f l;
    before = f.front;
    joined = f.joined;
    crowds = omega arith;
  }

  -- each spelling of two specifications whose nesting is within the limit is the phrase
  as_pair : (n : ℕ) (limit : NestingLimit) (ts : List Token) (whole : DefinitionView × DefinitionView) → SpellsPair text n ts whole →
      IsNestingWithin limit n → PairPhrase text limit ts whole []
  as_pair n limit ts whole d h =
      let within : IsNestingWithin limit (max d.first_nesting d.second_nesting) = subst (IsNestingWithin limit) d.deeper h in
      record {
        front = d.front;
        back = d.back;
        one = whole.0;
        other = whole.1;
        joined = d.joined;
        first = as_definition text limit (d.back ++ []) d.first (within_first limit d.first_nesting d.second_nesting within);
        second = as_whole d.second_nesting limit d.back whole.1 d.second (within_second limit d.first_nesting d.second_nesting within);
        same = refl;
      }

  -- the phrase spells two specifications whose nesting is within the limit
  from_pair : (limit : NestingLimit) (ts : List Token) (whole : DefinitionView × DefinitionView) → PairPhrase text limit ts whole [] →
      (n : ℕ) × SpellsPair text n ts whole × IsNestingWithin limit n
  from_pair limit ts whole t =
      let d = from_definition text limit t.front (t.back ++ []) t.one t.first in
      let e = from_whole limit t.back t.other t.second in
      let spelled : SpellsPair text (max d.0 e.0) ts (t.one, t.other) = record {
        front = t.front;
        back = t.back;
        joined = t.joined;
        first_nesting = d.0;
        second_nesting = e.0;
        first = d.1;
        second = e.1;
        deeper = refl;
      } in
      (max d.0 e.0, subst (λ m. SpellsPair text (max d.0 e.0) ts m) (sym t.same) spelled, within_both limit d.0 e.0 d.2 e.2)

  -- a list of tokens spells two specifications in one way
  pub one_pair : (ts : List Token) (n m : ℕ) (whole other : DefinitionView × DefinitionView) → SpellsPair text n ts whole → SpellsPair text m ts other →
      whole ≡ other
  one_pair ts n m whole other d e =
      let h = unique_definition text d.back e.back d.first e.first (sym d.joined ∙ e.joined) in
      let second = one_specification text e.back d.second_nesting e.second_nesting whole.1 other.1
      (subst (λ us. SpellsSpecification text d.second_nesting us whole.1) h.rest d.second) e.second in
      ap (λ x. (x, whole.1)) h.tree ∙ ap (λ y. (other.0, y)) second.0

  -- the phrase of two specifications is what their tokens spell
  pub pair_is_phrase : IsPhraseOf (SpellsPair text) (PairPhrase text)
  pair_is_phrase = record { as_whole = as_pair; from_whole = from_pair; one = one_pair }
