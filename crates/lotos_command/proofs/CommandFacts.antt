-- clap's contracts cover the command line, and the requests and faults of some words, computed.
use Rattle.std.proofs.Common.{◌≡◌, refl, true, false, codes, List, [], ◌∷◌, Some, None}
use Rattle.clap.specs.Words.{Text, fault_of, is_simple, is_simple_and_free, takes}
use Rattle.clap.specs.declared.error.kind.ErrorKind.TheVariants.{DisplayVersion, InvalidValue, UnknownArgument, ValueValidation}
use Rattle.clap.proofs.OnLiterals.{clap_on_literals}
use Rattle.lotos_command.specs.CommandFaults.{MakeNoRequest}
use Rattle.lotos_command.specs.CommandRules.{lotosseq}
use Rattle.lotos_command.specs.Request.{RequestOf, after, check, cover, diagnose, ever, hide, only, search, suite, whole}
use Rattle.lotos_command.specs.declared.command.Extent.TheVariants.{Depth, Length}
use Rattle.lotos_command.specs.declared.command.Runs.TheVariants.{Labels, Omitted, Origins}

-- the command line is simple, and no argument has a rule on another
pub simple_and_free : is_simple_and_free lotosseq ≡ true
simple_and_free = refl

-- the command line is simple
pub simple : is_simple lotosseq ≡ true
simple = refl

abbrev row : List Text
row = codes "lotosseq" ∷ codes "search" ∷ codes "--depth" ∷ codes "3" ∷ codes "A" ∷ codes "exit" ∷ []

-- clap accepts `search --depth 3 A exit`
row_is_taken : takes lotosseq row ≡ true
unfolding clap_on_literals
row_is_taken = refl

-- `search --depth 3 A exit` makes the search of depth 3 for `A exit`
row_asks : RequestOf row (search (record {
  extent = Depth 3;
  limit = None;
  terms = 100000;
  after = None;
  runs = Omitted;
  interface = whole;
  strong = false;
  known = false;
  progress = false;
  brief = false;
  words = codes "A" ∷ codes "exit" ∷ [];
}))
unfolding clap_on_literals
row_asks = record { faultless = refl; reads = refl }

abbrev hyphen_row : List Text
hyphen_row = codes "lotosseq" ∷ codes "search" ∷ codes "--depth=007" ∷ codes "--" ∷ codes "-x" ∷ []

-- `search --depth=007 -- -x` makes the search of depth 7 with the word `-x`
hyphen_asks : RequestOf hyphen_row (search (record {
  extent = Depth 7;
  limit = None;
  terms = 100000;
  after = None;
  runs = Omitted;
  interface = whole;
  strong = false;
  known = false;
  progress = false;
  brief = false;
  words = codes "-x" ∷ [];
}))
unfolding clap_on_literals
hyphen_asks = record { faultless = refl; reads = refl }

abbrev full_row : List Text
full_row =
    codes "lotosseq" ∷ codes "search" ∷ codes "--depth=1" ∷ codes "--after" ∷ codes "A : i A" ∷ codes "<until>" ∷ codes "--limit" ∷ codes "4"
    ∷ codes "--explain" ∷ codes "--terms=7" ∷ codes "--strong" ∷ codes "B" ∷ codes "--known" ∷ codes "--progress" ∷ []

-- `full_row` makes the search for `<until> B` with the values of its options
full_asks : RequestOf full_row (search (record {
  extent = Depth 1;
  limit = Some 4;
  terms = 7;
  after = Some (codes "A : i A");
  runs = Labels;
  interface = whole;
  strong = true;
  known = true;
  progress = true;
  brief = false;
  words = codes "<until>" ∷ codes "B" ∷ [];
}))
unfolding clap_on_literals
full_asks = record { faultless = refl; reads = refl }

abbrev length_row : List Text
length_row = codes "lotosseq" ∷ codes "search" ∷ codes "--length" ∷ codes "255" ∷ []

-- `search --length 255` makes the search of length 255 without words
length_asks : RequestOf length_row (search (record {
  extent = Length 255;
  limit = None;
  terms = 100000;
  after = None;
  runs = Omitted;
  interface = whole;
  strong = false;
  known = false;
  progress = false;
  brief = false;
  words = [];
}))
unfolding clap_on_literals
length_asks = record { faultless = refl; reads = refl }

-- `search --length=1 --depth=1`, with a length and a depth, has no fault and makes no request
both_ask_nothing : MakeNoRequest (codes "lotosseq" ∷ codes "search" ∷ codes "--length=1" ∷ codes "--depth=1" ∷ [])
unfolding clap_on_literals
both_ask_nothing = (refl, refl)

-- `search A`, with neither a length nor a depth, has no fault and makes no request
neither_asks_anything : MakeNoRequest (codes "lotosseq" ∷ codes "search" ∷ codes "A" ∷ [])
unfolding clap_on_literals
neither_asks_anything = (refl, refl)

abbrev seen_row : List Text
seen_row =
    codes "lotosseq" ∷ codes "search" ∷ codes "--length=2" ∷ codes "--hide" ∷ codes "a,B" ∷ codes "A" ∷ []

-- `search --length=2 --hide a,B A` makes the search of length 2 for `A` that hides `a,B`
seen_asks : RequestOf seen_row (search (record {
  extent = Length 2;
  limit = None;
  terms = 100000;
  after = None;
  runs = Omitted;
  interface = hide (codes "a,B");
  strong = false;
  known = false;
  progress = false;
  brief = false;
  words = codes "A" ∷ [];
}))
unfolding clap_on_literals
seen_asks = record { faultless = refl; reads = refl }

-- `search --length=1 --hide=A --only=B`, with two interfaces, has no fault and makes no request
two_interfaces_ask_nothing : MakeNoRequest (codes "lotosseq" ∷ codes "search" ∷ codes "--length=1" ∷ codes "--hide=A" ∷ codes "--only=B" ∷ [])
unfolding clap_on_literals
two_interfaces_ask_nothing = (refl, refl)

-- `check` makes the plain check
check_row_asks : RequestOf (codes "lotosseq" ∷ codes "check" ∷ []) check
unfolding clap_on_literals
check_row_asks = record { faultless = refl; reads = refl }

-- `check --warn` makes the check that warns and does not explain
warn_row_asks : RequestOf (codes "lotosseq" ∷ codes "check" ∷ codes "--warn" ∷ []) (diagnose (record { explain = false; warn = true; brief = false }))
unfolding clap_on_literals
warn_row_asks = record { faultless = refl; reads = refl }

-- `check --explain` makes the check that explains and does not warn
explain_row_asks : RequestOf (codes "lotosseq" ∷ codes "check" ∷ codes "--explain" ∷ []) (diagnose (record { explain = true; warn = false; brief = false }))
unfolding clap_on_literals
explain_row_asks = record { faultless = refl; reads = refl }

-- `check --brief` makes the check that says no more at a terminal than elsewhere
brief_row_asks : RequestOf (codes "lotosseq" ∷ codes "check" ∷ codes "--brief" ∷ []) (diagnose (record { explain = false; warn = false; brief = true }))
unfolding clap_on_literals
brief_row_asks = record { faultless = refl; reads = refl }

-- `--version` asks for the version
version_shown : fault_of lotosseq (codes "lotosseq" ∷ codes "--version" ∷ []) ≡ DisplayVersion ∷ []
unfolding clap_on_literals
version_shown = refl

-- `-V check` asks for the version
short_version_shown : fault_of lotosseq (codes "lotosseq" ∷ codes "-V" ∷ codes "check" ∷ []) ≡ DisplayVersion ∷ []
unfolding clap_on_literals
short_version_shown = refl

-- `check -V` has an unknown argument
check_has_no_version : fault_of lotosseq (codes "lotosseq" ∷ codes "check" ∷ codes "-V" ∷ []) ≡ UnknownArgument ∷ []
unfolding clap_on_literals
check_has_no_version = refl

-- `check --progress` has an unknown argument
check_has_no_progress : fault_of lotosseq (codes "lotosseq" ∷ codes "check" ∷ codes "--progress" ∷ []) ≡ UnknownArgument ∷ []
unfolding clap_on_literals
check_has_no_progress = refl

-- `check A` has an unknown argument
check_takes_no_word : fault_of lotosseq (codes "lotosseq" ∷ codes "check" ∷ codes "A" ∷ []) ≡ UnknownArgument ∷ []
unfolding clap_on_literals
check_takes_no_word = refl

-- 256 is no valid value of `search --length`
too_long : fault_of lotosseq (codes "lotosseq" ∷ codes "search" ∷ codes "--length" ∷ codes "256" ∷ []) ≡ ValueValidation ∷ []
unfolding clap_on_literals
too_long = refl

-- 256 is no valid value of `search --depth`
too_deep : fault_of lotosseq (codes "lotosseq" ∷ codes "search" ∷ codes "--depth" ∷ codes "256" ∷ []) ≡ ValueValidation ∷ []
unfolding clap_on_literals
too_deep = refl

-- 0 is no valid value of `search --limit`
no_line : fault_of lotosseq (codes "lotosseq" ∷ codes "search" ∷ codes "--depth=1" ∷ codes "--limit" ∷ codes "0" ∷ []) ≡ ValueValidation ∷ []
unfolding clap_on_literals
no_line = refl

-- 1,000,001 is no valid value of `search --terms`
too_many_terms : fault_of lotosseq (codes "lotosseq" ∷ codes "search" ∷ codes "--depth=1" ∷ codes "--terms=1000001" ∷ []) ≡ ValueValidation ∷ []
unfolding clap_on_literals
too_many_terms = refl

-- `ever` makes the search for a match with at most 1,000,000 states and without words
bare_ever_asks : RequestOf (codes "lotosseq" ∷ codes "ever" ∷ [])
    (ever (record { states = 1000000; runs = Omitted; interface = whole; strong = false; progress = false; brief = false; words = [] }))
unfolding clap_on_literals
bare_ever_asks = record { faultless = refl; reads = refl }

abbrev ever_row : List Text
ever_row =
    codes "lotosseq" ∷ codes "ever" ∷ codes "--strong" ∷ codes "A" ∷ codes "--states=100000000" ∷ codes "--explain" ∷ codes "--progress"
    ∷ codes "<deadlock>" ∷ codes "--brief" ∷ []

-- `ever_row` makes the search for a match of `A <deadlock>` with the values of its options
ever_asks : RequestOf ever_row (ever (record {
  states = 100000000;
  runs = Labels;
  interface = whole;
  strong = true;
  progress = true;
  brief = true;
  words = codes "A" ∷ codes "<deadlock>" ∷ [];
}))
unfolding clap_on_literals
ever_asks = record { faultless = refl; reads = refl }

-- `ever --explain A --hidden` makes the search for a match of `A` that writes the origins of internal steps
hidden_ever_asks : RequestOf (codes "lotosseq" ∷ codes "ever" ∷ codes "--explain" ∷ codes "A" ∷ codes "--hidden" ∷ [])
    (ever (record { states = 1000000; runs = Origins; interface = whole; strong = false; progress = false; brief = false; words = codes "A" ∷ [] }))
unfolding clap_on_literals
hidden_ever_asks = record { faultless = refl; reads = refl }

-- `ever --only=A,C "A C"` makes the search for a match of `A C` that hides all gates but `A,C`
ever_of_gates_asks : RequestOf (codes "lotosseq" ∷ codes "ever" ∷ codes "--only=A,C" ∷ codes "A C" ∷ [])
    (ever (record {
      states = 1000000;
      runs = Omitted;
      interface = only (codes "A,C");
      strong = false;
      progress = false;
      brief = false;
      words = codes "A" ∷ codes "C" ∷ [];
    }))
unfolding clap_on_literals
ever_of_gates_asks = record { faultless = refl; reads = refl }

-- `ever --only=A A --hide B`, with two interfaces, has no fault and makes no request
ever_of_two_interfaces_asks_nothing : MakeNoRequest (codes "lotosseq" ∷ codes "ever" ∷ codes "--only=A" ∷ codes "A" ∷ codes "--hide" ∷ codes "B" ∷ [])
unfolding clap_on_literals
ever_of_two_interfaces_asks_nothing = (refl, refl)

-- `--strong` is no valid value of `ever --hide`
no_flag_is_a_value : fault_of lotosseq (codes "lotosseq" ∷ codes "ever" ∷ codes "--hide" ∷ codes "--strong" ∷ []) ≡ InvalidValue ∷ []
unfolding clap_on_literals
no_flag_is_a_value = refl

-- 0 is no valid value of `ever --states`
no_state : fault_of lotosseq (codes "lotosseq" ∷ codes "ever" ∷ codes "--states" ∷ codes "0" ∷ []) ≡ ValueValidation ∷ []
unfolding clap_on_literals
no_state = refl

-- 100,000,001 is no valid value of `ever --states`
too_many_states : fault_of lotosseq (codes "lotosseq" ∷ codes "ever" ∷ codes "--states=100000001" ∷ []) ≡ ValueValidation ∷ []
unfolding clap_on_literals
too_many_states = refl

-- `ever --depth=1` has an unknown argument
ever_has_no_depth : fault_of lotosseq (codes "lotosseq" ∷ codes "ever" ∷ codes "--depth=1" ∷ []) ≡ UnknownArgument ∷ []
unfolding clap_on_literals
ever_has_no_depth = refl

-- `ever --known` has an unknown argument
ever_has_no_known : fault_of lotosseq (codes "lotosseq" ∷ codes "ever" ∷ codes "--known" ∷ []) ≡ UnknownArgument ∷ []
unfolding clap_on_literals
ever_has_no_known = refl

-- `after` makes the request for what can come after the empty sequence, with at most 100,000 terms
bare_after_asks : RequestOf (codes "lotosseq" ∷ codes "after" ∷ [])
    (after (record { terms = 100000; interface = whole; strong = false; progress = false; brief = false; words = [] }))
unfolding clap_on_literals
bare_after_asks = record { faultless = refl; reads = refl }

-- `after "PUT GET" --strong i --terms=1 --progress` makes the request with these values for `PUT GET i`
after_asks : RequestOf (codes "lotosseq" ∷ codes "after" ∷ codes "PUT GET" ∷ codes "--strong" ∷ codes "i" ∷ codes "--terms=1" ∷ codes "--progress" ∷ [])
    (after (record { terms = 1; interface = whole; strong = true; progress = true; brief = false; words = codes "PUT" ∷ codes "GET" ∷ codes "i" ∷ [] }))
unfolding clap_on_literals
after_asks = record { faultless = refl; reads = refl }

-- `after --explain` has an unknown argument
after_has_no_explain : fault_of lotosseq (codes "lotosseq" ∷ codes "after" ∷ codes "--explain" ∷ []) ≡ UnknownArgument ∷ []
unfolding clap_on_literals
after_has_no_explain = refl

-- 0 is no valid value of `after --terms`
after_needs_a_term : fault_of lotosseq (codes "lotosseq" ∷ codes "after" ∷ codes "--terms=0" ∷ []) ≡ ValueValidation ∷ []
unfolding clap_on_literals
after_needs_a_term = refl

-- `cover` makes the request for a cover with at most 100,000 terms and 1,000,000 states
bare_cover_asks : RequestOf (codes "lotosseq" ∷ codes "cover" ∷ [])
    (cover (record { limit = None; after = None; terms = 100000; states = 1000000; interface = whole; strong = false; progress = false; brief = false }))
unfolding clap_on_literals
bare_cover_asks = record { faultless = refl; reads = refl }

abbrev cover_row : List Text
cover_row =
    codes "lotosseq" ∷ codes "cover" ∷ codes "--after" ∷ codes "A B" ∷ codes "--limit=4" ∷ codes "--strong" ∷ codes "--terms" ∷ codes "7"
    ∷ codes "--progress" ∷ codes "--states=100000000" ∷ []

-- `cover_row` makes the request for a cover with the values of its options
cover_asks : RequestOf cover_row (cover (record {
  limit = Some 4;
  after = Some (codes "A B");
  terms = 7;
  states = 100000000;
  interface = whole;
  strong = true;
  progress = true;
  brief = false;
}))
unfolding clap_on_literals
cover_asks = record { faultless = refl; reads = refl }

-- `cover A` has an unknown argument
cover_takes_no_word : fault_of lotosseq (codes "lotosseq" ∷ codes "cover" ∷ codes "A" ∷ []) ≡ UnknownArgument ∷ []
unfolding clap_on_literals
cover_takes_no_word = refl

-- 0 is no valid value of `cover --states`
cover_needs_a_set : fault_of lotosseq (codes "lotosseq" ∷ codes "cover" ∷ codes "--states=0" ∷ []) ≡ ValueValidation ∷ []
unfolding clap_on_literals
cover_needs_a_set = refl

-- `suite` makes the request for a suite for implementations without extra states
bare_suite_asks : RequestOf (codes "lotosseq" ∷ codes "suite" ∷ []) (suite (record {
  extra = 0;
  limit = None;
  after = None;
  terms = 100000;
  states = 1000000;
  interface = whole;
  strong = false;
  progress = false;
  brief = false;
}))
unfolding clap_on_literals
bare_suite_asks = record { faultless = refl; reads = refl }

abbrev suite_row : List Text
suite_row =
    codes "lotosseq" ∷ codes "suite" ∷ codes "--after=- A B" ∷ codes "--limit=4" ∷ codes "--strong" ∷ codes "--extra" ∷ codes "3"
    ∷ codes "--brief" ∷ codes "--states=5" ∷ codes "--hide" ∷ codes "C" ∷ []

-- `suite_row` makes the request for a suite with the values of its options
suite_asks : RequestOf suite_row (suite (record {
  extra = 3;
  limit = Some 4;
  after = Some (codes "- A B");
  terms = 100000;
  states = 5;
  interface = hide (codes "C");
  strong = true;
  progress = false;
  brief = true;
}))
unfolding clap_on_literals
suite_asks = record { faultless = refl; reads = refl }

-- 4 is no valid value of `suite --extra`
too_many_extra_states : fault_of lotosseq (codes "lotosseq" ∷ codes "suite" ∷ codes "--extra=4" ∷ []) ≡ ValueValidation ∷ []
unfolding clap_on_literals
too_many_extra_states = refl

-- a line that begins with `-` is no word of `suite --after`
sign_is_a_flag : fault_of lotosseq (codes "lotosseq" ∷ codes "suite" ∷ codes "--after" ∷ codes "- A" ∷ []) ≡ UnknownArgument ∷ []
unfolding clap_on_literals
sign_is_a_flag = refl
