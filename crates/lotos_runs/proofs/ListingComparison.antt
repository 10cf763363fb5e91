-- How matches compare with listings, and how many questions a system has.
use Rattle.std.proofs.Common.{◌≡◌, ◌<◌, ◌≤◌, ℕ, List, length, refl, ap, sym, subst, inl, arith}
use Rattle.lotos_check.specs.Flat.{System}
use Rattle.lotos_pattern.specs.Patterns.{Matches}
use Rattle.lotos_listing.specs.Order.{Label}
use Rattle.lotos_listing.specs.Derivations.{observed}
use Rattle.lotos_listing.specs.Question.{IsQuestionOf, IsMember, Question}
use Rattle.lotos_runs.specs.MatchQuestions.{IsMatchQuestionOf, IsMatchOf, MatchQuestion, IsFirstMatchOf, listing_of}

-- it is so as the question of a listing
as_search : (system : System) (q : MatchQuestion) → IsMatchQuestionOf system q → IsQuestionOf system (listing_of q 0 0)
as_search system q h = record { named = h.named; gates = h.gates; processes = h.processes; start = h.start }

-- the question of a listing, without its bounds
back : Question → MatchQuestion
back s = record { names = s.names; processes = s.processes; start = s.start; pattern = s.pattern }

-- two questions about a system with the same pattern are the same
pub one : ((system : System) (q r : Question) → IsQuestionOf system q → IsQuestionOf system r → q.pattern ≡ r.pattern →
    q.depth ≡ r.depth → q.terms ≡ r.terms → q ≡ r) →
    (system : System) (q r : MatchQuestion) → IsMatchQuestionOf system q → IsMatchQuestionOf system r → q.pattern ≡ r.pattern → q ≡ r
unfolding back
one law system q r h g same = ap back (law system (listing_of q 0 0) (listing_of r 0 0) (as_search system q h) (as_search system r g) same refl refl)

-- the run of a member is that of a match, with no more steps than the depth
member_matches : (q : MatchQuestion) (depth terms : ℕ) (s : List Label) → IsMember (listing_of q depth terms) s →
    (word : List Label) × IsMatchOf q word × (length word ≤ depth)
member_matches q depth terms s (word, fits) = (
  word,
  record { last = fits.last; derives = fits.derives; matches = subst (Matches q.pattern) (sym fits.observes) fits.matches; ends = fits.ends },
  fits.short,
)

-- if there is no match, no listing has a member
pub never_listed : (q : MatchQuestion) → ((word : List Label) → IsMatchOf q word → ⊥) → (depth terms : ℕ) (s : List Label) →
    IsMember (listing_of q depth terms) s → ⊥
never_listed q never depth terms s member = let (word, match, short) = member_matches q depth terms s member in never word match

-- what is observed of a match is a member of each listing that is deep enough
pub listed : (q : MatchQuestion) (word : List Label) → IsMatchOf q word → (depth terms : ℕ) → length word ≤ depth →
    IsMember (listing_of q depth terms) (observed q.pattern.strong word)
listed q word match depth terms short =
    (word, record { last = match.last; derives = match.derives; short = short; observes = refl; matches = match.matches; ends = match.ends })

-- a listing that is less deep than the first match is long has no member
pub none_before : (q : MatchQuestion) (word : List Label) → IsFirstMatchOf q word → (depth terms : ℕ) → depth < length word →
    (s : List Label) → IsMember (listing_of q depth terms) s → ⊥
none_before q word is_first depth terms less s member =
    let (other, match, short) = member_matches q depth terms s member in
    is_first.first other match (inl (omega arith))
