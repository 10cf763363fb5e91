-- Hide forms: how they parse and fail after the keyword `hide`.
use Rattle.std.proofs.Common.{◌≡◌, ℕ, ◌+◌, ◌-◌, ◌<◌, Bool, true, false, List, [], ◌∷◌, ◌++◌, Some, None, Result, Ok, Err, IfErr, refl, sym, ◌∙◌, ap, append_assoc, arith, subst}
use Rattle.lotos_text.specs.AstView as t
use Rattle.lotos_text.specs.AstView.{BehaviourView}
use Rattle.lotos_text.specs.Grammar.{IsOfKind, Level, enabling, Spells, hide}
use Rattle.lotos_text.specs.Follow.{precedence, bound}
use Rattle.lotos_text.specs.ParserContracts.{Phrase, NestingLimit, Parses, Fails, IsTooDeepAt}
use Rattle.lotos_text.specs.Phrases.{Sequence, OneToken, Preceded, Followed, NameList, BehaviourPhrase}
use Rattle.lotos_text.specs.declared.token.Token.{Token}
use Rattle.lotos_text.specs.declared.token.TokenKind.TheVariants.{Reserved}
use Rattle.lotos_text.specs.declared.token.Word.TheVariants as w
use Rattle.lotos_text.specs.declared.ast.Placed.{Placed}
use Rattle.lotos_text.proofs.FirstToken.{is_first}
use Rattle.lotos_text.proofs.Levels.{rank_open}
use Rattle.lotos_text.proofs.Limits.{inside, within_inside, opens_is, opens_among, crowded_here}
use Rattle.lotos_text.proofs.NameLists.{firm_names}
use Rattle.lotos_text.proofs.OneToken.{found_preceded, lost_preceded, firm_preceded, found_before, lost_unclosed, lost_within, firm_before}
use Rattle.lotos_text.proofs.Operands.{taken_hide}
use Rattle.lotos_text.proofs.Sequences.{Firm, lost_as, between, as_between, found_then, lost_first, lost_second}
use Rattle.lotos_text.proofs.ParseErrors.{Carries}

-- a statement about each level holds of the error at each level
pub each_level : {T E : Type 0} (P : Level → E → Type 0) (r : Result T E) → ((level : Level) → IfErr r (P level)) →
    IfErr r (λ e. (level : Level) → P level e)
each_level P (Ok x) h = tt
each_level P (Err e) h = h

-- no token continues what ends at the loosest level
quits_open : (l : Level) (ends : Bool) (ts : List Token) → precedence ts < bound enabling ends → precedence ts < bound l true
quits_open l true ts h = omega (arith, h)
quits_open l false ts h = omega (arith, h)

module _ (text : List ℕ) where
  abbrev Opened : Phrase (List Placed)
  Opened = Preceded (Reserved w.HideWord) (NameList text)

  abbrev Hiding : Phrase (List Placed)
  Hiding = Followed Opened (Reserved w.InWord)

  abbrev HideForm : NestingLimit → Phrase BehaviourView
  HideForm limit = Sequence t.hide Hiding (BehaviourPhrase text enabling limit)

  -- the keyword `hide`, the names and `in` are unique
  firm_hiding : Firm Hiding
  firm_hiding = firm_before Opened _ (firm_preceded _ (NameList text) (firm_names text))

  -- if some nesting is left, a hide form whose body has one less left is a behaviour expression of each level
  found_form : (l : Level) (nesting_left : ℕ) (ts rest : List Token) (x : BehaviourView) → 0 < nesting_left →
      Parses (HideForm (Some (nesting_left - 1))) ts x rest →
      Parses (BehaviourPhrase text l (Some nesting_left)) ts x rest
  found_form l nesting_left ts rest x h f =
      let p = f.whole in
      let b = between _ _ (NameList text) p.front (p.back ++ rest) p.one p.first in
      let own : f.front ≡ b.left ∷ b.inner ++ b.right ∷ p.back =
      p.joined ∙ ap (λ m. m ++ p.back) b.joined ∙ ap (λ m. b.left ∷ m) (append_assoc b.inner (b.right ∷ []) p.back) in
      record {
        front = f.front;
        joined = f.joined;
        whole = record {
          ends = true;
          nesting = p.second.nesting + 1;
          spells = subst (λ m. Spells text l true (p.second.nesting + 1) m x) (sym own)
              (subst (λ y. Spells text l true (p.second.nesting + 1) (b.left ∷ b.inner ++ b.right ∷ p.back) y) (sym p.same)
              (hide b.begins b.within.names b.ends p.second.spells));
          quits = quits_open l p.second.ends rest p.second.quits;
          within = (let k = p.second.within in omega (arith, h, k));
        };
      }

  -- if the parts of a hide form fail within the limit inside, so does the behaviour expression that begins with `hide`
  lost_form : (l : Level) (limit : NestingLimit) (n : Token) (ts rest : List Token) → IsOfKind n (Reserved w.HideWord) →
      Fails (HideForm (inside limit)) (n ∷ ts) rest → Fails (BehaviourPhrase text l limit) (n ∷ ts) rest
  lost_form l limit n ts rest i lost = lost_as (BehaviourPhrase text l limit) (HideForm (inside limit)) n (n ∷ ts) ts rest refl
      (λ own remainder more x e p.
      let b = taken_hide text remainder more i p.spells e in (
        x,
        record {
          front = n ∷ b.listed ++ b.word ∷ [];
          back = b.body;
          one = b.names;
          other = b.after;
          joined = b.tokens ∙ ap (λ m. n ∷ m) (sym (append_assoc b.listed (b.word ∷ []) b.body));
          first = as_between _ _ (NameList text) n b.word b.listed (b.body ++ remainder) b.names i
              (record { names = b.gates; quits = is_first b.enters (λ e. cc) }) b.enters;
          second = record {
            ends = b.within;
            nesting = b.depth;
            spells = b.spells;
            quits = rank_open l enabling b.within p.ends remainder b.extends p.quits;
            within = within_inside limit b.depth p.nesting b.nesting p.within;
          };
          same = b.tree;
        },
      ))
      lost

  -- if names parse, so do `hide` and the names
  opened : (n : Token) (ts between : List Token) (names : List Placed) → IsOfKind n (Reserved w.HideWord) →
      Parses (NameList text) ts names between → Parses Opened (n ∷ ts) names between
  opened n ts between names i f = found_preceded _ (NameList text) (n ∷ ts) ts between n names refl i f

  -- if names parse and `in` follows them, `hide`, the names and `in` parse
  hiding : (n word : Token) (ts between after : List Token) (names : List Placed) → IsOfKind n (Reserved w.HideWord) →
      Parses (NameList text) ts names between → between ≡ word ∷ after → IsOfKind word (Reserved w.InWord) →
      Parses Hiding (n ∷ ts) names after
  hiding n word ts between after names i f e j = found_before Opened _ (n ∷ ts) between after word names
      (opened n ts between names i f) e j

  -- names, `in` and a behaviour expression are a hide form of each level
  pub found_hidden : (l : Level) (nesting_left : ℕ) (n word : Token) (ts between after rest : List Token)
      (names : List Placed) (x z : BehaviourView) →
      0 < nesting_left → IsOfKind n (Reserved w.HideWord) → Parses (NameList text) ts names between → between ≡ word ∷ after →
      IsOfKind word (Reserved w.InWord) → Parses (BehaviourPhrase text enabling (Some (nesting_left - 1))) after x rest → z ≡ t.hide names x →
      Parses (BehaviourPhrase text l (Some nesting_left)) (n ∷ ts) z rest
  found_hidden l nesting_left n word ts between after rest names x z h i f e j g k =
      found_form l nesting_left (n ∷ ts) rest z h
      (found_then t.hide Hiding (BehaviourPhrase text enabling (Some (nesting_left - 1))) (n ∷ ts) after rest names x z
      (hiding n word ts between after names i f e j) g k)

  -- if the names fail, so does the hide form
  pub lost_hidden : (l : Level) (n : Token) (ts rest : List Token) → IsOfKind n (Reserved w.HideWord) → Fails (NameList text) ts rest →
      Fails (BehaviourPhrase text l None) (n ∷ ts) rest
  lost_hidden l n ts rest i lost =
      lost_form l None n ts rest i (lost_first t.hide Hiding (BehaviourPhrase text enabling None) (n ∷ ts) rest
      (lost_within Opened _ (n ∷ ts) rest (lost_preceded _ (NameList text) (n ∷ ts) ts rest n refl i lost)))

  -- if `in` fails, so does the hide form
  pub lost_unentered : (l : Level) (n : Token) (ts between rest : List Token) (names : List Placed) → IsOfKind n (Reserved w.HideWord) →
      Parses (NameList text) ts names between → Fails (OneToken (Reserved w.InWord)) between rest →
      Fails (BehaviourPhrase text l None) (n ∷ ts) rest
  lost_unentered l n ts between rest names i f lost =
      lost_form l None n ts rest i (lost_first t.hide Hiding (BehaviourPhrase text enabling None) (n ∷ ts) rest
      (lost_unclosed Opened _ (firm_preceded _ (NameList text) (firm_names text)) (n ∷ ts) between rest names
      (opened n ts between names i f) lost))

  -- if the behaviour expression after `in` fails within the limit inside, so does the hide form
  lost_body : (l : Level) (limit : NestingLimit) (n word : Token) (ts between after rest : List Token) (names : List Placed) →
      IsOfKind n (Reserved w.HideWord) → Parses (NameList text) ts names between → between ≡ word ∷ after → IsOfKind word (Reserved w.InWord) →
      Fails (BehaviourPhrase text enabling (inside limit)) after rest → Fails (BehaviourPhrase text l limit) (n ∷ ts) rest
  lost_body l limit n word ts between after rest names i f e j lost =
      lost_form l limit n ts rest i
      (lost_second t.hide Hiding (BehaviourPhrase text enabling (inside limit)) firm_hiding (n ∷ ts) after rest names
      (hiding n word ts between after names i f e j) lost)

  -- if the behaviour expression fails, so does the hide form
  pub carries_hidden : (l : Level) (nesting_left : ℕ) (n word : Token) (ts between after : List Token) (names : List Placed) →
      IsOfKind n (Reserved w.HideWord) → Parses (NameList text) ts names between → between ≡ word ∷ after → IsOfKind word (Reserved w.InWord) →
      Carries (BehaviourPhrase text enabling) (nesting_left - 1) after (BehaviourPhrase text l) nesting_left (n ∷ ts)
  carries_hidden l nesting_left n word ts between after names i f e j = record {
    free = λ rest. lost_body l None n word ts between after rest names i f e j;
    limited = λ rest. lost_body l (Some nesting_left) n word ts between after rest names i f e j;
    before = n ∷ f.front ++ word ∷ [];
    joined = ap (λ m. n ∷ m) (f.joined ∙ ap (λ m. f.front ++ m) e ∙ sym (append_assoc f.front (word ∷ []) after));
    crowds = (let h = opens_among [] (f.front ++ word ∷ []) n (opens_is i refl) in omega (arith, h));
  }

  -- with no nesting left, `hide` is too deep
  pub deep_hide : (l : Level) (nesting_left : ℕ) (n : Token) (ts : List Token) → nesting_left ≡ 0 → IsOfKind n (Reserved w.HideWord) →
      IsTooDeepAt (BehaviourPhrase text l) nesting_left (n ∷ ts) n
  deep_hide l nesting_left n ts h i = record {
    after = ts;
    fails = record {
      front = [];
      joined = refl;
      never = λ more own remainder x st e p.
          let b = taken_hide text remainder st.0 i p.spells (sym e ∙ st.1) in
          let j = b.nesting in let k = p.within in absurd (omega (arith, h, j, k));
    };
    too_many_open = crowded_here (n ∷ ts) [] ts n nesting_left refl h (opens_is i refl);
    opens = opens_is i refl;
  }
