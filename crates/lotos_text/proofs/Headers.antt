-- The header of a definition: how it parses and fails.
use Rattle.std.proofs.Common.{ℕ, List, refl}
use Rattle.lotos_text.specs.ParserContracts.{Phrase, Parses, Fails}
use Rattle.lotos_text.specs.Phrases.{Sequence, OneName, OptionalGates, OneFunctionality, FunctionalityPhrase, HeaderValue, HeaderPhrase}
use Rattle.lotos_text.specs.declared.token.Token.{Token}
use Rattle.lotos_text.specs.declared.ast.Functionality.{Functionality}
use Rattle.lotos_text.specs.declared.ast.Placed.{Placed}
use Rattle.lotos_text.proofs.NameLists.{firm_gates}
use Rattle.lotos_text.proofs.OneToken.{firm_name, firm_declared, firm_preceded}
use Rattle.lotos_text.proofs.Sequences.{Firm, found_then, lost_first, lost_second, firm_then}

abbrev named : Placed → List Placed → Placed × List Placed
named name formals = (name, formals)

abbrev headed : Placed × List Placed → Functionality → HeaderValue
headed front returns = (front.0, front.1, returns)

module _ (text : List ℕ) where
  -- the name and the formal gates
  abbrev Front : Phrase (Placed × List Placed)
  Front = Sequence named (OneName text) (OptionalGates text)

  -- the name and the formal gates are unique
  firm_front : Firm Front
  firm_front = firm_then named (OneName text) (OptionalGates text) (firm_name text) (firm_gates text)

  -- a header is the only one
  pub firm_header : Firm (HeaderPhrase text)
  firm_header = firm_then headed Front FunctionalityPhrase firm_front (firm_preceded _ OneFunctionality firm_declared)

  -- if the name and then the formal gates parse, so do both together
  found_front : (ts r q : List Token) (name : Placed) (formals : List Placed) → Parses (OneName text) ts name r →
      Parses (OptionalGates text) r formals q → Parses Front ts (name, formals) q
  found_front ts r q name formals f g = found_then named (OneName text) (OptionalGates text) ts r q name formals (name, formals) f g refl

  -- name, gates and functionality are the header
  pub found_header : (ts r q rest : List Token) (name : Placed) (formals : List Placed) (func : Functionality) →
      Parses (OneName text) ts name r → Parses (OptionalGates text) r formals q → Parses FunctionalityPhrase q func rest →
      Parses (HeaderPhrase text) ts (name, formals, func) rest
  found_header ts r q rest name formals func f g h = found_then headed Front FunctionalityPhrase ts q rest (name, formals) func
      (name, formals, func) (found_front ts r q name formals f g) h refl

  -- if the name fails, so does the header
  pub lost_title : (ts rest : List Token) → Fails (OneName text) ts rest → Fails (HeaderPhrase text) ts rest
  lost_title ts rest l = lost_first headed Front FunctionalityPhrase ts rest (lost_first named (OneName text) (OptionalGates text) ts rest l)

  -- if the formal gates fail, so does the header
  pub lost_formals : (ts r rest : List Token) (name : Placed) → Parses (OneName text) ts name r → Fails (OptionalGates text) r rest →
      Fails (HeaderPhrase text) ts rest
  lost_formals ts r rest name f l = lost_first headed Front FunctionalityPhrase ts rest
      (lost_second named (OneName text) (OptionalGates text) (firm_name text) ts r rest name f l)

  -- if the functionality fails, so does the header
  pub lost_returns : (ts r q rest : List Token) (name : Placed) (formals : List Placed) → Parses (OneName text) ts name r →
      Parses (OptionalGates text) r formals q → Fails FunctionalityPhrase q rest → Fails (HeaderPhrase text) ts rest
  lost_returns ts r q rest name formals f g l = lost_second headed Front FunctionalityPhrase firm_front ts q rest (name, formals)
      (found_front ts r q name formals f g) l
