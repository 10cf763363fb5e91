-- The terms at places of a followed run.
use Rattle.std.proofs.Common.{◌≡◌, ◌<◌, ℕ, List, Option, None, Some, length, refl}
use Rattle.std.specs.Prelude.{slice_get}
use Rattle.lotos_check.proofs.ListIndices.{get_in}
use Rattle.lotos_store.specs.declared.label.Label.{Label}
use Rattle.lotos_terms.specs.TableView.{TableView}
use Rattle.lotos_origins.specs.FollowedRuns.{IsFollowed, terms_in}
use Rattle.lotos_origins.specs.Rounds.{IsAtPlace}
use Rattle.lotos_origins.specs.declared.followed_run.FollowedRun.{FollowedRun}
use Rattle.lotos_origins.specs.declared.followed_run.Place.{Place}
use Rattle.lotos_origins.specs.declared.run_layers.Layer.{Layer}

-- a term of a layer that there may be is one of a layer that there is
of_layer : (o : Option Layer) (index x : ℕ) → slice_get (terms_in o) index ≡ Some x →
    (l : Layer) × (o ≡ Some l) × (slice_get l.terms.items index ≡ Some x)
of_layer None index x at = absurd (let z : None ≡ Some x = at in cc)
of_layer (Some l) index x at = (l, refl, at)

-- the term at a place has a number
pub place_known : (table : TableView) (start : ℕ) (run : List Label) (followed : FollowedRun) (place : Place) (x : ℕ) →
    IsFollowed table start run followed → IsAtPlace followed place x → x < length table.terms
place_known table start run followed place x is at =
    let (l, l_at, there) = of_layer (slice_get followed.layers.items place.count) place.index x at in
    (is.along place.count l l_at).0 x (get_in l.terms.items place.index x there)
