use Rattle.lotos_listing.proofs.ListingFronts.{same_listings}
use Rattle.lotos_suite.specs.CoverListings.{IsListedLine}
use Rattle.lotos_suite.proofs.laws.lines_can_be_observed.Goals as goal

pub returns-clause-observed : goal.returns-clause-observed
returns-clause-observed c q s listed = listed.line.covers.observed

pub returns-clause-unique : goal.returns-clause-unique
returns-clause-unique c q = same_listings (IsListedLine q)
