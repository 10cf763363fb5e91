-- The request that the words of the command line make.
use Rattle.std.specs.Prelude.{◌≡◌, ◌≤◌, ◌||◌, ℕ, Bool, false, List, [], map, codes, Option, Some, None, if◌then◌else◌, option_map, option_and_then, unwrap_or, string_bytes, IfSome, ⊤}
use Rattle.std.specs.Option.{option_map_or}
use Rattle.std.specs.Str.{bytes_eq}
use Rattle.std.specs.Str.Parse.{digits_value, without_leading_plus}
use Rattle.clap.specs.Words.{Row, Text, all_of, fault_of, first_of, one_of, subcommand_of}
use Rattle.lotos_command.specs.CommandRules.{lotosseq}
use Rattle.lotos_command.specs.PatternWords.{pattern_words}
use Rattle.lotos_command.specs.declared.command.Request.{Request}
use Rattle.lotos_command.specs.declared.command.Request.TheVariants as request
use Rattle.lotos_command.specs.declared.command.DiagnoseRequest.{DiagnoseRequest}
use Rattle.lotos_command.specs.declared.command.Extent.{Extent}
use Rattle.lotos_command.specs.declared.command.Extent.TheVariants.{Depth, Length}
use Rattle.lotos_command.specs.declared.command.Runs.{Runs}
use Rattle.lotos_command.specs.declared.command.Runs.TheVariants.{Labels, Omitted, Origins}
use Rattle.lotos_command.specs.declared.command.Interface.{Interface}
use Rattle.lotos_command.specs.declared.command.Interface.TheVariants.{Hide, Only, Whole}
use Rattle.lotos_command.specs.declared.command.SearchRequest.{SearchRequest}
use Rattle.lotos_command.specs.declared.command.EverRequest.{EverRequest}
use Rattle.lotos_command.specs.declared.command.AfterRequest.{AfterRequest}
use Rattle.lotos_command.specs.declared.command.CoverRequest.{CoverRequest}
use Rattle.lotos_command.specs.declared.command.GraphRequest.{GraphRequest}
use Rattle.lotos_command.specs.declared.command.SuiteRequest.{SuiteRequest}
use Rattle.lotos_command.specs.declared.command.CompareRequest.{CompareRequest}

-- which gates a question is about, with texts for strings: all, all but these, or these
pub data InterfaceView : Type 0 where
  whole : InterfaceView
  hide : Text → InterfaceView
  only : Text → InterfaceView

-- the view of a search: texts for strings
pub record SearchView : Type 0 where
  pub extent : Extent
  pub limit : Option ℕ
  pub terms : ℕ
  pub after : Option Text
  pub runs : Runs
  pub interface : InterfaceView
  pub strong : Bool
  pub known : Bool
  pub progress : Bool
  pub brief : Bool
  pub words : List Text

-- the view of a search for a match of any length: texts for strings
pub record EverView : Type 0 where
  pub states : ℕ
  pub runs : Runs
  pub interface : InterfaceView
  pub strong : Bool
  pub progress : Bool
  pub brief : Bool
  pub words : List Text

-- the view of a request for what can come after a sequence: texts for strings
pub record AfterView : Type 0 where
  pub terms : ℕ
  pub interface : InterfaceView
  pub strong : Bool
  pub progress : Bool
  pub brief : Bool
  pub words : List Text

-- the view of a request for sequences that together show all that can be observed: texts for strings
pub record CoverView : Type 0 where
  pub limit : Option ℕ
  pub after : Option Text
  pub terms : ℕ
  pub states : ℕ
  pub interface : InterfaceView
  pub strong : Bool
  pub progress : Bool
  pub brief : Bool

-- the view of a request for all that can be observed: texts for strings
pub record GraphView : Type 0 where
  pub terms : ℕ
  pub states : ℕ
  pub interface : InterfaceView
  pub strong : Bool
  pub progress : Bool
  pub brief : Bool

-- the view of a request for a test suite: texts for strings
pub record SuiteView : Type 0 where
  pub extra : ℕ
  pub limit : Option ℕ
  pub after : Option Text
  pub terms : ℕ
  pub states : ℕ
  pub interface : InterfaceView
  pub strong : Bool
  pub progress : Bool
  pub brief : Bool

-- the view of a request for the first difference of two specifications: texts for strings
pub record CompareView : Type 0 where
  pub within : Bool
  pub terms : ℕ
  pub states : ℕ
  pub interface : InterfaceView
  pub strong : Bool
  pub progress : Bool
  pub brief : Bool

-- the view of a request: texts for strings
pub data RequestView : Type 0 where
  check : RequestView
  diagnose : DiagnoseRequest → RequestView
  search : SearchView → RequestView
  ever : EverView → RequestView
  after : AfterView → RequestView
  cover : CoverView → RequestView
  graph : GraphView → RequestView
  suite : SuiteView → RequestView
  compare : CompareView → RequestView

-- the view of the program's interface
abbrev pub interface_view : Interface → InterfaceView
interface_view Whole = whole
interface_view (Hide names) = hide (string_bytes names)
interface_view (Only names) = only (string_bytes names)

-- the view of the program's search
abbrev pub search_view : SearchRequest → SearchView
search_view request = record {
  extent = request.extent;
  limit = request.limit;
  terms = request.terms;
  after = option_map string_bytes request.after;
  runs = request.runs;
  interface = interface_view request.interface;
  strong = request.strong;
  known = request.known;
  progress = request.progress;
  brief = request.brief;
  words = map string_bytes request.words.items;
}

-- the view of the program's search for a match of any length
abbrev pub ever_view : EverRequest → EverView
ever_view request = record {
  states = request.states;
  runs = request.runs;
  interface = interface_view request.interface;
  strong = request.strong;
  progress = request.progress;
  brief = request.brief;
  words = map string_bytes request.words.items;
}

-- the view of the program's request for what can come after a sequence
abbrev pub after_view : AfterRequest → AfterView
after_view request = record {
  terms = request.terms;
  interface = interface_view request.interface;
  strong = request.strong;
  progress = request.progress;
  brief = request.brief;
  words = map string_bytes request.words.items;
}

-- the view of the program's request for sequences that together show all that can be observed
abbrev pub cover_view : CoverRequest → CoverView
cover_view request = record {
  limit = request.limit;
  after = option_map string_bytes request.after;
  terms = request.terms;
  states = request.states;
  interface = interface_view request.interface;
  strong = request.strong;
  progress = request.progress;
  brief = request.brief;
}

-- the view of the program's request for all that can be observed
abbrev pub graph_view : GraphRequest → GraphView
graph_view request = record {
  terms = request.terms;
  states = request.states;
  interface = interface_view request.interface;
  strong = request.strong;
  progress = request.progress;
  brief = request.brief;
}

-- the view of the program's request for a test suite
abbrev pub suite_view : SuiteRequest → SuiteView
suite_view request = record {
  extra = request.extra;
  limit = request.limit;
  after = option_map string_bytes request.after;
  terms = request.terms;
  states = request.states;
  interface = interface_view request.interface;
  strong = request.strong;
  progress = request.progress;
  brief = request.brief;
}

-- the view of the program's request for the first difference of two specifications
abbrev pub compare_view : CompareRequest → CompareView
compare_view request = record {
  within = request.within;
  terms = request.terms;
  states = request.states;
  interface = interface_view request.interface;
  strong = request.strong;
  progress = request.progress;
  brief = request.brief;
}

-- the view of the program's request
abbrev pub request_view : Request → RequestView
request_view request.Check = check
request_view (request.Diagnose request) = diagnose request
request_view (request.Search request) = search (search_view request)
request_view (request.Ever request) = ever (ever_view request)
request_view (request.After request) = after (after_view request)
request_view (request.Cover request) = cover (cover_view request)
request_view (request.Graph request) = graph (graph_view request)
request_view (request.Suite request) = suite (suite_view request)
request_view (request.Compare request) = compare (compare_view request)

-- the number of a decimal numeral, perhaps after a plus sign
abbrev pub number : Text → ℕ
number text = digits_value 10 (without_leading_plus text)

-- whether the flag with this name is set
abbrev pub flag : Text → List Row → Bool
flag name rows = option_map_or (bytes_eq (codes "true")) (one_of name rows) false

-- the extent of a listing for which this depth and this length are given, if just one of them is
abbrev pub extent_of : (depth length : Option ℕ) → Option Extent
extent_of None None = None
extent_of None (Some n) = Some (Length n)
extent_of (Some d) None = Some (Depth d)
extent_of (Some d) (Some n) = None

-- the extent that the entries of the subcommand `search` give, if they give just one
abbrev pub extent_from : List Row → Option Extent
extent_from rows =
    extent_of (option_map number (one_of (codes "depth") rows)) (option_map number (one_of (codes "length") rows))

-- what a line has after its sequence: what makes the internal steps of its run if `--hidden` is given, otherwise the
-- labels of the run if `--explain` is, otherwise nothing
abbrev pub runs_of : (explain hidden : Bool) → Runs
runs_of explain hidden = if hidden then Origins else (if explain then Labels else Omitted)

-- what a line has after its sequence, by the entries of a subcommand
abbrev pub runs_from : List Row → Runs
runs_from rows = runs_of (flag (codes "explain") rows) (flag (codes "hidden") rows)

-- the interface for which these names of `--hide` and of `--only` are given, if not both are
abbrev pub interface_of : (hidden kept : Option Text) → Option InterfaceView
interface_of None None = Some whole
interface_of None (Some names) = Some (only names)
interface_of (Some names) None = Some (hide names)
interface_of (Some names) (Some others) = None

-- the interface that the entries of a subcommand give, if they do not have both of `--hide` and `--only`
abbrev pub interface_from : List Row → Option InterfaceView
interface_from rows = interface_of (first_of (codes "hide") rows) (first_of (codes "only") rows)

-- the search with this extent and this interface that the entries of the subcommand `search` make
abbrev pub search_with : List Row → Extent → InterfaceView → SearchView
search_with rows extent interface = record {
  extent = extent;
  limit = option_map number (one_of (codes "limit") rows);
  terms = option_map_or number (one_of (codes "terms") rows) 100000;
  after = first_of (codes "after") rows;
  runs = runs_from rows;
  interface = interface;
  strong = flag (codes "strong") rows;
  known = flag (codes "known") rows;
  progress = flag (codes "progress") rows;
  brief = flag (codes "brief") rows;
  words = pattern_words (unwrap_or (all_of (codes "words") rows) []);
}

-- the search that the entries of the subcommand `search` make, if they give just one extent and an interface
abbrev pub search_from : List Row → Option SearchView
search_from rows =
    option_and_then (λ extent. option_map (search_with rows extent) (interface_from rows)) (extent_from rows)

-- the search for a match that the entries of the subcommand `ever` make, if they give an interface
abbrev pub ever_from : List Row → Option EverView
ever_from rows = option_map (λ interface. record {
  states = option_map_or number (one_of (codes "states") rows) 1000000;
  runs = runs_from rows;
  interface = interface;
  strong = flag (codes "strong") rows;
  progress = flag (codes "progress") rows;
  brief = flag (codes "brief") rows;
  words = pattern_words (unwrap_or (all_of (codes "words") rows) []);
}) (interface_from rows)

-- the request for what can come after a sequence that the entries of the subcommand `after` make, if they give an
-- interface
abbrev pub after_from : List Row → Option AfterView
after_from rows = option_map (λ interface. record {
  terms = option_map_or number (one_of (codes "terms") rows) 100000;
  interface = interface;
  strong = flag (codes "strong") rows;
  progress = flag (codes "progress") rows;
  brief = flag (codes "brief") rows;
  words = pattern_words (unwrap_or (all_of (codes "words") rows) []);
}) (interface_from rows)

-- the request for sequences that show all that can be observed, which the entries of the subcommand `cover` make, if
-- they give an interface
abbrev pub cover_from : List Row → Option CoverView
cover_from rows = option_map (λ interface. record {
  limit = option_map number (one_of (codes "limit") rows);
  after = first_of (codes "after") rows;
  terms = option_map_or number (one_of (codes "terms") rows) 100000;
  states = option_map_or number (one_of (codes "states") rows) 1000000;
  interface = interface;
  strong = flag (codes "strong") rows;
  progress = flag (codes "progress") rows;
  brief = flag (codes "brief") rows;
}) (interface_from rows)

-- the request for all that can be observed that the entries of the subcommand `graph` make, if they give an interface
abbrev pub graph_from : List Row → Option GraphView
graph_from rows = option_map (λ interface. record {
  terms = option_map_or number (one_of (codes "terms") rows) 100000;
  states = option_map_or number (one_of (codes "states") rows) 1000000;
  interface = interface;
  strong = flag (codes "strong") rows;
  progress = flag (codes "progress") rows;
  brief = flag (codes "brief") rows;
}) (interface_from rows)

-- the request for a test suite that the entries of the subcommand `suite` make, if they give an interface
abbrev pub suite_from : List Row → Option SuiteView
suite_from rows = option_map (λ interface. record {
  extra = option_map_or number (one_of (codes "extra") rows) 0;
  limit = option_map number (one_of (codes "limit") rows);
  after = first_of (codes "after") rows;
  terms = option_map_or number (one_of (codes "terms") rows) 100000;
  states = option_map_or number (one_of (codes "states") rows) 1000000;
  interface = interface;
  strong = flag (codes "strong") rows;
  progress = flag (codes "progress") rows;
  brief = flag (codes "brief") rows;
}) (interface_from rows)

-- the request for the first difference of two specifications that the entries of the subcommand `compare` make, if they
-- give an interface
abbrev pub compare_from : List Row → Option CompareView
compare_from rows = option_map (λ interface. record {
  within = flag (codes "within") rows;
  terms = option_map_or number (one_of (codes "terms") rows) 100000;
  states = option_map_or number (one_of (codes "states") rows) 1000000;
  interface = interface;
  strong = flag (codes "strong") rows;
  progress = flag (codes "progress") rows;
  brief = flag (codes "brief") rows;
}) (interface_from rows)

-- the check with these options, or the plain one if it has none
abbrev pub check_with : DiagnoseRequest → RequestView
check_with request = if (request.explain || request.warn) || request.brief then diagnose request else check

-- the check that the entries of the subcommand `check` make
abbrev pub check_from : List Row → RequestView
check_from rows = check_with (record {
  explain = flag (codes "explain") rows;
  warn = flag (codes "warn") rows;
  brief = flag (codes "brief") rows;
})

-- the request that a subcommand of this name with these entries makes, if it makes one
abbrev pub request_named : Text → List Row → Option RequestView
request_named name rows =
    if bytes_eq name (codes "search") then option_map search (search_from rows)
    else (if bytes_eq name (codes "check") then Some (check_from rows)
    else (if bytes_eq name (codes "ever") then option_map ever (ever_from rows)
    else (if bytes_eq name (codes "after") then option_map after (after_from rows)
    else (if bytes_eq name (codes "cover") then option_map cover (cover_from rows)
    else (if bytes_eq name (codes "graph") then option_map graph (graph_from rows)
    else (if bytes_eq name (codes "suite") then option_map suite (suite_from rows)
    else (if bytes_eq name (codes "compare") then option_map compare (compare_from rows) else None)))))))

-- the request that the given subcommand with its entries makes, if one was given
abbrev pub request_from : Option (Text × List Row) → Option RequestView
request_from given = option_and_then (λ p. request_named p.0 p.1) given

-- the request that the words make by the subcommand and the entries that clap finds in them
abbrev pub request_of : List Text → Option RequestView
request_of words = request_from (subcommand_of lotosseq words)

-- the words, the program's own name first, make this request: clap finds no fault in them, and the entries that it
-- finds make the request
pub record RequestOf (words : List Text) (request : RequestView) : Type 0 where
  pub faultless : fault_of lotosseq words ≡ []
  pub reads : request_of words ≡ Some request

-- the bound on the terms of a prefix is at least 1, and so is the limit, if one is given
pub record HasSearchBounds (request : SearchRequest) : Type 0 where
  pub terms : 1 ≤ request.terms
  pub limit : IfSome request.limit (λ n. 1 ≤ n)

-- the bounds on the normal forms that a prefix reaches and on the sets of these are at least 1, and so is the limit, if
-- one is given
pub record HasCoverBounds (request : CoverRequest) : Type 0 where
  pub terms : 1 ≤ request.terms
  pub states : 1 ≤ request.states
  pub limit : IfSome request.limit (λ n. 1 ≤ n)

-- the bounds on the normal forms that a sequence reaches and on the sets of these are at least 1
pub record HasGraphBounds (request : GraphRequest) : Type 0 where
  pub terms : 1 ≤ request.terms
  pub states : 1 ≤ request.states

-- an implementation may have at most three extra states; the bounds on the normal forms that a sequence reaches and on
-- the sets of these are at least 1, and so is the limit, if one is given
pub record HasSuiteBounds (request : SuiteRequest) : Type 0 where
  pub extra : request.extra ≤ 3
  pub terms : 1 ≤ request.terms
  pub states : 1 ≤ request.states
  pub limit : IfSome request.limit (λ n. 1 ≤ n)

-- the bounds on the normal forms that a sequence reaches and on the pairs of sets of these are at least 1
pub record HasCompareBounds (request : CompareRequest) : Type 0 where
  pub terms : 1 ≤ request.terms
  pub states : 1 ≤ request.states

-- the bounds of a search, if the request is one; at least one state, if it is a search for a match of any length; at
-- least one normal form, if it is for what can come after a sequence; the bounds of a cover, if it is for sequences
-- that show all that can be observed; those of a graph, if it is for an automaton; those of a suite, if it is for a
-- test suite; and those of a comparison, if it is for a difference
abbrev pub HasBounds : Request → Type 0
HasBounds request.Check = ⊤
HasBounds (request.Diagnose request) = ⊤
HasBounds (request.Search request) = HasSearchBounds request
HasBounds (request.Ever request) = 1 ≤ request.states
HasBounds (request.After request) = 1 ≤ request.terms
HasBounds (request.Cover request) = HasCoverBounds request
HasBounds (request.Graph request) = HasGraphBounds request
HasBounds (request.Suite request) = HasSuiteBounds request
HasBounds (request.Compare request) = HasCompareBounds request
