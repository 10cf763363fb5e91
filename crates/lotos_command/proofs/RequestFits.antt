-- Words without a fault name one of the subcommands, with entries that can be read.
use Rattle.std.proofs.Common.{◌≡◌, ◌∙◌, ◌≤◌, ◌||◌, ◌==◌, ℕ, Bool, cond, true, false, refl, sym, ap, subst, arith, List, [], ◌∷◌, ◌++◌, get_or, Option, Some, None, codes, drop, find, is_some, inl, inr, map}
use Rattle.std.specs.Prelude.{IfSome, slice_get, pos, unwrap_or}
use Rattle.std.specs.Option.{option_map, option_map_or, option_and_then}
use Rattle.std.specs.Str.{bytes_eq}
use Rattle.std.specs.Str.Parse.{IsNumeral, digits_value, starts_with_minus, without_leading_plus}
use Rattle.std.proofs.lemmas.Bool.{ne_eqb}
use Rattle.std.proofs.lemmas.Int.{ints}
use Rattle.std.proofs.lemmas.Str.Parse.{digit_from_value}
use Rattle.std.proofs.lemmas.Slice.Eq.{bytes_eq-Decides}
use Rattle.clap.specs.Lexer.{without_minus}
use Rattle.clap.specs.Facts.{parser_of_value}
use Rattle.clap.specs.Values.{Accepts, IsSignedIn, read_as, reading_of, refused_kind}
use Rattle.clap.specs.ValueTests.{accepts}
use Rattle.clap.proofs.ValueTestLemmas.{accepts-Accepts}
use Rattle.clap.specs.Walk.{Row, Rule, Text, action_of, arg_by_id, nothing_held, one_of, reading_by, row_text}
use Rattle.clap.specs.Simple.{App, Shape, argument_words, built, entered, matches_of, names_of, new_shape, rows_at, subcommand_of}
use Rattle.clap.specs.Kinds.{value_kinds}
use Rattle.clap.specs.declared.builder.value_parser.ValueParser.TheVariants as vp
use Rattle.clap.specs.Faults.{check_fault, entered_fault, fault_of, level_fault, values_fault}
use Rattle.lotos_command.specs.CommandRules.{lotosseq}
use Rattle.lotos_command.specs.EntryRules.{AreReadable, FitsRequest, IsNumberIn, IsTruthText}
use Rattle.lotos_command.specs.Request.{number}
use Rattle.lotos_command.proofs.KindsAbsent.{both_empty, not_empty}
use Rattle.lotos_command.proofs.ReadyArguments.{Each, IsOrdinary, IsReady, counts, each_found}
use Rattle.lotos_command.proofs.FaultlessLevels.{AsksNoHelp, StopsWell, level_leaves}

-- ---- an entry

-- the text is read of a value that the argument's parser accepts
pub record IsReadFrom (a : Rule) (t : Text) : Type 0 where
  pub value : Text
  pub is : t ≡ read_as (reading_by a) value
  pub accepted : Accepts a.ignore_case (parser_of_value a.parser) value

-- if a value passes the parser of an argument without a fault, the parser accepts it
passed_is_accepted : (a : Rule) (v : Text) → value_kinds a.ignore_case (parser_of_value a.parser) v ≡ []
    → Accepts a.ignore_case (parser_of_value a.parser) v
passed_is_accepted a v e =
    accepts-Accepts a.ignore_case (parser_of_value a.parser) v (go (accepts a.ignore_case (parser_of_value a.parser) v) e)
  where
    go : (b : Bool) → cond b [] (refused_kind (parser_of_value a.parser) ∷ []) ≡ [] → b ≡ true
    go true none = refl
    go false none = absurd (not_empty _ _ none)

module _ (rules : List Rule) (rows : List Row) (all : Each (IsReady rules) rows) (id : Text) (a : Rule) (is : arg_by_id rules id ≡ Some a) where
  -- a ready entry that has the id is that of `a`
  rule_is : (r : Row) (ready : IsReady rules r) → bytes_eq r.id id ≡ true → ready.rule ≡ a
  rule_is r ready same =
      let here : r.id ≡ id = (bytes_eq-Decides r.id id).0 same in
      let some : Some ready.rule ≡ Some a = sym ready.is ∙ ap (arg_by_id rules) here ∙ is in
      cc

  -- the first of the values is one that the parser accepts
  first_reads : (r : Row) (ready : IsReady rules r) → ready.rule ≡ a → (v : Text) (vs : List Text) → values_fault ready.rule (v ∷ vs) ≡ []
      → IsReadFrom a (read_as r.reading v)
  first_reads r ready same v vs none =
      let first = both_empty (value_kinds ready.rule.ignore_case (parser_of_value ready.rule.parser) v) _ none in
      let how : r.reading ≡ reading_by a = ready.read ∙ ap reading_by same in
      let taken : Accepts a.ignore_case (parser_of_value a.parser) v =
      subst (λ (x : Rule). Accepts x.ignore_case (parser_of_value x.parser) v) same (passed_is_accepted ready.rule v first.0) in
      record { value = v; is = ap (λ x. read_as x v) how; accepted = taken }

  -- the text of an entry of `a`, if there is one, is read of a value that the parser of `a` accepts
  row_reads : (r : Row) (ready : IsReady rules r) → ready.rule ≡ a → IfSome (row_text r) (IsReadFrom a)
  row_reads r ready same = go r.values ready.passed
    where
      go : (vs : List Text) → values_fault ready.rule vs ≡ [] → IfSome (option_map (read_as r.reading) (slice_get vs 0)) (IsReadFrom a)
      go [] none = tt
      go (v ∷ vs) none = first_reads r ready same v vs none

  -- if the argument has an entry, its parser accepts it
  entry_fits : IfSome (one_of id rows) (IsReadFrom a)
  entry_fits = go (find (λ x. bytes_eq x.id id) rows) refl
    where
      go : (o : Option Row) → find (λ x. bytes_eq x.id id) rows ≡ o → IfSome (option_and_then row_text o) (IsReadFrom a)
      go None e = tt
      go (Some r) e =
          let found = each_found (IsReady rules) (λ x. bytes_eq x.id id) rows r all e in
          row_reads r found.0 (rule_is r found.0 found.1)

-- ---- numbers

without_minus-cond : (t : Text) → without_minus t ≡ cond (starts_with_minus t) (drop 1 t) t
without_minus-cond [] = refl
without_minus-cond (x ∷ xs) = go (x == 45)
  where
    go : (b : Bool) → unwrap_or (cond b (Some xs) None) (x ∷ xs) ≡ cond b xs (x ∷ xs)
    go true = refl
    go false = refl

-- a numeral does not begin with a plus sign
numeral_has_no_plus : (ds : Text) → IsNumeral 10 ds → without_leading_plus ds ≡ ds
numeral_has_no_plus [] h = refl
numeral_has_no_plus (d ∷ ds) h =
    let other : (d == 43) ≡ false = ne_eqb _ _ (λ e. omega (arith, digit_from_value d h.1.0)) in
    ap (λ (b : Bool). drop (cond b 1 0) (d ∷ ds)) other

-- what the signed parser with these bounds accepts, `-0` included, is read as a number within them
signed_is_within : (low high : ℕ) (t : Text) → IsSignedIn (pos low) (pos high) t → IsNumberIn low high (without_minus t)
signed_is_within low high t accepted = subst (IsNumberIn low high) (sym (without_minus-cond t)) (go (starts_with_minus t) refl)
  where
    go : (b : Bool) → starts_with_minus t ≡ b → IsNumberIn low high (cond (starts_with_minus t) (drop 1 t) t)
    go true minus =
        let over = rw minus at accepted.2 in
        let numeral : IsNumeral 10 (drop 1 t) = rw minus at accepted.0 in
        let same = numeral_has_no_plus (drop 1 t) numeral in
        let least : low ≤ digits_value 10 (drop 1 t) = omega (arith, ints) in
        let most : digits_value 10 (drop 1 t) ≤ high = omega (arith, ints) in
        let bare : IsNumberIn low high (drop 1 t) = record { numeral = rw same numeral; least = rw same least; most = rw same most } in
        rw minus bare
    go false minus =
        let over = rw minus at accepted.2 in
        let under = rw minus at accepted.3 in
        let digits = rw minus at accepted.0 in
        let low_ok : low ≤ number t = omega (arith, ints) in
        let high_ok : number t ≤ high = omega (arith, ints) in
        let bare : IsNumberIn low high t = record { numeral = digits; least = low_ok; most = high_ok } in
        rw minus bare

-- if every text with `P` has `Q`, and a text, if there is one, has `P`, then it has `Q`
if_some_more : (P Q : Text → Type 0) (o : Option Text) → ((t : Text) → P t → Q t) → IfSome o P → IfSome o Q
if_some_more P Q None more h = tt
if_some_more P Q (Some t) more h = more t h

-- ---- the command line as clap builds it

abbrev whole : App
whole = built lotosseq

abbrev nth : ℕ → Shape
nth n = get_or whole.subs n (new_shape [])

abbrev search_shape : Shape
search_shape = nth 0

abbrev check_shape : Shape
check_shape = nth 1

abbrev ever_shape : Shape
ever_shape = nth 2

abbrev after_shape : Shape
after_shape = nth 3

abbrev cover_shape : Shape
cover_shape = nth 4

abbrev graph_shape : Shape
graph_shape = nth 5

abbrev suite_shape : Shape
suite_shape = nth 6

abbrev compare_shape : Shape
compare_shape = nth 7

abbrev help_shape : Shape
help_shape = nth 8

-- arguments that are each the first with their id, and do not count their uses, are ordinary
each_ordinary : (rules more : List Rule) → map (λ a. arg_by_id rules a.id) more ≡ map Some more
    → map (λ a. counts (action_of a)) more ≡ map (λ _. false) more → Each (IsOrdinary rules) more
each_ordinary rules [] own once = tt
each_ordinary rules (a ∷ more) own once =
    let others : map (λ b. arg_by_id rules b.id) more ≡ map Some more = cc in
    let others_once : map (λ b. counts (action_of b)) more ≡ map (λ _. false) more = cc in
    (record { own = cc; no_count = cc }, each_ordinary rules more others others_once)

-- the arguments of the program itself are ordinary
top_is_ordinary : Each (IsOrdinary whole.top.rules) whole.top.rules
top_is_ordinary = each_ordinary whole.top.rules whole.top.rules refl refl

-- ---- the arguments of all subcommands together

abbrev all_rules : List Rule
all_rules = search_shape.rules ++ (ever_shape.rules ++ (check_shape.rules ++ (suite_shape.rules ++ compare_shape.rules)))

-- each argument is the one that has its id among those of all subcommands
abbrev AreShared : List Rule → Type 0
AreShared rules = map (λ a. arg_by_id all_rules a.id) rules ≡ map Some rules

-- an id that such arguments have is that of the same argument among those of all subcommands
shared_is : (rules : List Rule) (id : Text) (a : Rule) → AreShared rules → arg_by_id rules id ≡ Some a → arg_by_id all_rules id ≡ Some a
shared_is [] id a shared e = cc
shared_is (b ∷ rules) id a shared e =
    let others : AreShared rules = cc in
    go (bytes_eq b.id id) refl e (shared_is rules id a others)
  where
    go : (same : Bool) → bytes_eq b.id id ≡ same → cond same (Some b) (arg_by_id rules id) ≡ Some a
        → (arg_by_id rules id ≡ Some a → arg_by_id all_rules id ≡ Some a) → arg_by_id all_rules id ≡ Some a
    go true is found later =
        let here : b.id ≡ id = (bytes_eq-Decides b.id id).0 is in
        let first : arg_by_id all_rules b.id ≡ Some b = cc in
        ap (arg_by_id all_rules) (sym here) ∙ first ∙ found
    go false is found later = later found

-- entries that are ready with such arguments are ready with those of all subcommands
shared_ready : (rules : List Rule) (rows : List Row) → AreShared rules → Each (IsReady rules) rows → Each (IsReady all_rules) rows
shared_ready rules [] shared all = tt
shared_ready rules (row ∷ rows) shared all = (
  record {
    rule = all.0.rule;
    is = shared_is rules row.id all.0.rule shared all.0.is;
    read = all.0.read;
    passed = all.0.passed;
    filled = all.0.filled;
  },
  shared_ready rules rows shared all.1,
)

-- ---- the entries of a subcommand

module _ (rows : List Row) (all : Each (IsReady all_rules) rows) where
  -- the entry of an option for numbers within bounds, if there is one, is such a number
  number_fits : (id : Text) (low high : ℕ) (a : Rule) → arg_by_id all_rules id ≡ Some a → a.parser ≡ Some (vp.Signed (pos low) (pos high))
      → IfSome (one_of id rows) (IsNumberIn low high)
  number_fits id low high a is parser = if_some_more (IsReadFrom a) (IsNumberIn low high) (one_of id rows) go (entry_fits all_rules rows all id a is)
    where
      go : (t : Text) → IsReadFrom a t → IsNumberIn low high t
      go t read =
          let text : t ≡ without_minus read.value = read.is ∙ ap (λ p. read_as (reading_of (parser_of_value p)) read.value) parser in
          let taken : IsSignedIn (pos low) (pos high) read.value =
          subst (λ p. Accepts a.ignore_case (parser_of_value p) read.value) parser read.accepted in
          subst (IsNumberIn low high) (sym text) (signed_is_within low high read.value taken)

  -- the entry of a flag, if there is one, is a truth value
  flag_fits : (id : Text) (a : Rule) → arg_by_id all_rules id ≡ Some a → a.parser ≡ Some vp.Bool → IfSome (one_of id rows) IsTruthText
  flag_fits id a is parser = if_some_more (IsReadFrom a) IsTruthText (one_of id rows) go (entry_fits all_rules rows all id a is)
    where
      go : (t : Text) → IsReadFrom a t → IsTruthText t
      go t read =
          let text : t ≡ read.value = read.is ∙ ap (λ p. read_as (reading_of (parser_of_value p)) read.value) parser in
          subst IsTruthText (sym text) (subst (λ p. Accepts a.ignore_case (parser_of_value p) read.value) parser read.accepted)

  -- all entries can be read
  entries_fit : AreReadable rows
  entries_fit = record {
    depth = number_fits (codes "depth") 0 255 _ refl refl;
    length = number_fits (codes "length") 0 255 _ refl refl;
    limit = number_fits (codes "limit") 1 1000000000 _ refl refl;
    terms = number_fits (codes "terms") 1 1000000 _ refl refl;
    states = number_fits (codes "states") 1 100000000 _ refl refl;
    extra = number_fits (codes "extra") 0 3 _ refl refl;
    explain = flag_fits (codes "explain") _ refl refl;
    hidden = flag_fits (codes "hidden") _ refl refl;
    strong = flag_fits (codes "strong") _ refl refl;
    known = flag_fits (codes "known") _ refl refl;
    progress = flag_fits (codes "progress") _ refl refl;
    warn = flag_fits (codes "warn") _ refl refl;
    within = flag_fits (codes "within") _ refl refl;
    brief = flag_fits (codes "brief") _ refl refl;
  }

-- a subcommand with ordinary and shared arguments, entered without a fault, has entries that can be read
subcommand_fits : (s : Shape) (words : List Text) → map (λ a. arg_by_id s.rules a.id) s.rules ≡ map Some s.rules
    → map (λ a. counts (action_of a)) s.rules ≡ map (λ _. false) s.rules → AreShared s.rules
    → level_fault s [] nothing_held words false [] ≡ [] → AreReadable (rows_at s words).1
subcommand_fits s words own once shared e =
    let left = level_leaves s [] (each_ordinary s.rules s.rules own once) words false [] e in
    entries_fit _ (shared_ready s.rules _ shared left.ready)

-- the subcommand that a word names, given whether it is `search`, `check`, `ever`, `after`, `cover`, `graph`, `suite`,
-- `compare` or `help`
abbrev named : Bool → Bool → Bool → Bool → Bool → Bool → Bool → Bool → Bool → Option Shape
named is_search is_check is_ever is_after is_cover is_graph is_suite is_compare is_help =
    cond (is_search || false) (Some search_shape)
    (cond (is_check || false) (Some check_shape)
    (cond (is_ever || false) (Some ever_shape)
    (cond (is_after || false) (Some after_shape)
    (cond (is_cover || false) (Some cover_shape)
    (cond (is_graph || false) (Some graph_shape)
    (cond (is_suite || false) (Some suite_shape)
    (cond (is_compare || false) (Some compare_shape) (cond (is_help || false) (Some help_shape) None))))))))

-- if the words stop at no `help`, and neither the subcommand nor the last checks have a fault, a subcommand was given
-- and its entries can be read
stop_fits : (rows : List Row) (stop : Option (Text × List Text)) → StopsWell whole.top (names_of whole) top_is_ordinary stop
    → entered_fault whole stop ≡ [] → check_fault whole.top rows (is_some (entered whole stop)) ≡ [] → FitsRequest (entered whole stop)
stop_fits rows None well below check = absurd (not_empty _ _ check)
stop_fits rows (Some p) well below check =
    go (bytes_eq (codes "search") p.0) (bytes_eq (codes "check") p.0) (bytes_eq (codes "ever") p.0) (bytes_eq (codes "after") p.0)
    (bytes_eq (codes "cover") p.0) (bytes_eq (codes "graph") p.0) (bytes_eq (codes "suite") p.0)
    (bytes_eq (codes "compare") p.0) (bytes_eq (codes "help") p.0) refl below check
  where
    go : (is_search is_check is_ever is_after is_cover is_graph is_suite is_compare is_help : Bool) → bytes_eq (codes "help") p.0 ≡ is_help
        → option_map_or (λ s. level_fault s [] nothing_held p.1 false [])
        (named is_search is_check is_ever is_after is_cover is_graph is_suite is_compare is_help) [] ≡ []
        → check_fault whole.top rows
        (is_some (option_map (λ s. rows_at s p.1)
        (named is_search is_check is_ever is_after is_cover is_graph is_suite is_compare is_help))) ≡ []
        → FitsRequest (option_map (λ s. rows_at s p.1) (named is_search is_check is_ever is_after is_cover is_graph is_suite is_compare is_help))
    go true is_check is_ever is_after is_cover is_graph is_suite is_compare is_help e under check =
        (inl refl, subcommand_fits search_shape p.1 refl refl refl under)
    go false true is_ever is_after is_cover is_graph is_suite is_compare is_help e under check =
        (inr (inl refl), subcommand_fits check_shape p.1 refl refl refl under)
    go false false true is_after is_cover is_graph is_suite is_compare is_help e under check =
        (inr (inr (inl refl)), subcommand_fits ever_shape p.1 refl refl refl under)
    go false false false true is_cover is_graph is_suite is_compare is_help e under check =
        (inr (inr (inr (inl refl))), subcommand_fits after_shape p.1 refl refl refl under)
    go false false false false true is_graph is_suite is_compare is_help e under check =
        (inr (inr (inr (inr (inl refl)))), subcommand_fits cover_shape p.1 refl refl refl under)
    go false false false false false true is_suite is_compare is_help e under check =
        (inr (inr (inr (inr (inr (inl refl))))), subcommand_fits graph_shape p.1 refl refl refl under)
    go false false false false false false true is_compare is_help e under check =
        (inr (inr (inr (inr (inr (inr (inl refl)))))), subcommand_fits suite_shape p.1 refl refl refl under)
    go false false false false false false false true is_help e under check =
        (inr (inr (inr (inr (inr (inr (inr refl)))))), subcommand_fits compare_shape p.1 refl refl refl under)
    go false false false false false false false false true e under check =
        let name : codes "help" ≡ p.0 = (bytes_eq-Decides (codes "help") p.0).0 e in
        let bad : true ≡ false = subst (AsksNoHelp whole.top (names_of whole) top_is_ordinary) (sym name) well in
        cc
    go false false false false false false false false false e under check = absurd (not_empty _ _ check)

-- words without a fault give a subcommand, and its entries can be read
pub request_fits : (words : List Text) → fault_of lotosseq words ≡ [] → FitsRequest (subcommand_of lotosseq words)
request_fits words e =
    let left = level_leaves whole.top (names_of whole) top_is_ordinary (argument_words lotosseq words) _ _ e in
    stop_fits (matches_of lotosseq words) _ left.stops left.no_fault_below left.checked
