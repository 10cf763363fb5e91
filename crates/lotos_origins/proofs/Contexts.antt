-- Terms that are alike in contexts have the same steps, with the same origins of the internal ones.
use Rattle.std.proofs.Common.{◌≡◌, ◌≢◌, ◌∙◌, ℕ, nat_eq, List, [], ◌∷◌, Option, Some, Bool, true, false, if◌then◌else◌, refl, ap, subst, sym}
use Rattle.std.proofs.Common.{arith, inl, inr, length, map}
use Rattle.std.specs.Prelude.{slice_get, zip}
use Rattle.std.proofs.lemmas.Bool.Decides.{Decides-eqb}
use Rattle.lotos_check.specs.NameLists.{In}
use Rattle.lotos_store.specs.GateLists.{is_in_list}
use Rattle.lotos_store.specs.Terms.{Process, Term, call, disable, enable, hide, par, relabel}
use Rattle.lotos_store.specs.declared.label.Label.{Label}
use Rattle.lotos_store.specs.declared.label.Label.TheVariants as l
use Rattle.lotos_store.proofs.GateLists.{listed_in, listed_true, not_true}
use Rattle.lotos_terms.specs.Alphabets.{HasAlphabet, IsClosedSystem}
use Rattle.lotos_terms.specs.Moves.{actual_gate}
use Rattle.lotos_terms.specs.Steps as s
use Rattle.lotos_terms.specs.Steps.{Relabels, Step}
use Rattle.lotos_terms.proofs.AlphabetSteps.{shows_among, stays_within, unfolds}
use Rattle.lotos_terms.proofs.RelabelledSteps.{relabelled_is, relabels_gate}
use Rattle.lotos_origins.specs.Contexts as a
use Rattle.lotos_origins.specs.Contexts.{AreAlikeIn, Context, DoAlike, Does, Event, Image, bare, event_of, gate, image_through, inside, made_internal}
use Rattle.lotos_origins.specs.Contexts.{seen_through, shown, termination, under, with_hiding, with_relabelling}
use Rattle.lotos_origins.specs.Origins as i
use Rattle.lotos_origins.specs.Origins.{InternalStep}
use Rattle.lotos_origins.specs.declared.origin.Origin.{Origin}
use Rattle.lotos_origins.specs.declared.origin.Origin.TheVariants as origin
use Rattle.lotos_origins.proofs.InternalSteps.{is_step}

-- what relabelling makes of a step
abbrev relabelled : List (ℕ × ℕ) → Event → Event
relabelled m (gate g) = gate (actual_gate m g)
relabelled m termination = termination
relabelled m (inside o) = inside o

-- what hiding makes of a step
abbrev hidden : List ℕ → Event → Event
hidden gates (gate g) = if is_in_list gates g then inside (origin.Hidden g) else gate g
hidden gates termination = termination
hidden gates (inside o) = inside o

-- without a context each step is seen as it is
seen_bare : (e : Event) → seen_through bare e ≡ e
seen_bare (gate g) = refl
seen_bare termination = refl
seen_bare (inside o) = refl

-- contexts that make the same of each gate make the same of each step
seen_alike : (c d : Context) → ((g : ℕ) → c g ≡ d g) → (e : Event) → seen_through c e ≡ seen_through d e
seen_alike c d h (gate g) = ap event_of (h g)
seen_alike c d h termination = refl
seen_alike c d h (inside o) = refl

-- a context makes of a relabelled step what it makes, with the relabelling inside, of the step
seen_relabelled : (c : Context) (m : List (ℕ × ℕ)) (e : Event) → seen_through c (relabelled m e) ≡ seen_through (with_relabelling c m) e
seen_relabelled c m (gate g) = refl
seen_relabelled c m termination = refl
seen_relabelled c m (inside o) = refl

-- so it is with the hiding of a gate, whether it is listed or not
seen_if : (c : Context) (g : ℕ) (b : Bool) →
    seen_through c (if b then inside (origin.Hidden g) else gate g) ≡ event_of (if b then made_internal g else c g)
seen_if c g true = refl
seen_if c g false = refl

-- a context makes of a step under a hiding what it makes, with the hiding inside, of the step
seen_hidden : (c : Context) (gates : List ℕ) (e : Event) → seen_through c (hidden gates e) ≡ seen_through (with_hiding c gates) e
seen_hidden c gates (gate g) = seen_if c g (is_in_list gates g)
seen_hidden c gates termination = refl
seen_hidden c gates (inside o) = refl

-- no action of a gate is seen as termination
no_termination : (x : Image) → event_of x ≡ termination → ⊥
no_termination (shown g) e = cc
no_termination (made_internal g) e = cc

-- what is seen as termination is termination
seen_end : (c : Context) (e : Event) → seen_through c e ≡ termination → e ≡ termination
seen_end c (gate g) is = absurd (no_termination (c g) is)
seen_end c termination is = refl
seen_end c (inside o) is = absurd cc

-- what is seen as another step than termination is another step
seen_going_on : (c d : Context) (e f : Event) → e ≢ termination → seen_through c e ≡ seen_through d f → f ≢ termination
seen_going_on c d e f other same is = other (seen_end c e (same ∙ ap (seen_through d) is))

-- with one more pair in front of each of two relabellings, contexts make the same of a gate, if they do so of its own
-- pair's actual gates and under the other pairs
zip_more : (c d : Context) (m n : List (ℕ × ℕ)) (f x y g : ℕ) (fs : List ℕ) (b : Bool) → nat_eq f g ≡ b → c x ≡ d y →
    (In g fs → with_relabelling c m g ≡ with_relabelling d n g) → In g (f ∷ fs) →
    c (if b then x else actual_gate m g) ≡ d (if b then y else actual_gate n g)
zip_more c d m n f x y g fs true e first rest listed = first
zip_more c d m n f x y g fs false e first rest (inl is) = absurd (let t = (Decides-eqb f g).1 is in cc)
zip_more c d m n f x y g fs false e first rest (inr listed) = rest listed

-- contexts that make the same of the actual gates of two calls make the same of the formal gates under the relabellings
-- of the calls
zip_alike : (c d : Context) (formals gates others : List ℕ) → length gates ≡ length formals → map c gates ≡ map d others → (g : ℕ) → In g formals →
    with_relabelling c (zip formals gates) g ≡ with_relabelling d (zip formals others) g
zip_alike c d [] gates others fits same g listed = absurd listed
zip_alike c d (f ∷ fs) [] others fits same g listed = absurd (omega (arith, fits))
zip_alike c d (f ∷ fs) (x ∷ xs) [] fits same g listed = absurd cc
zip_alike c d (f ∷ fs) (x ∷ xs) (y ∷ ys) fits same g listed =
    let first : c x ≡ d y = cc in
    let others : map c xs ≡ map d ys = cc in
    let fewer : length xs ≡ length fs = omega (arith, fits) in
    zip_more c d (zip fs xs) (zip fs ys) f x y g fs (nat_eq f g) refl first (λ i. zip_alike c d fs xs ys fewer others g i) listed

-- what a larger context makes of a list of gates is what it makes of what the context inside it makes of them
map_under : (outer c : Context) (gates : List ℕ) → map (under outer c) gates ≡ map (image_through outer) (map c gates)
map_under outer c [] = refl
map_under outer c (g ∷ gates) = ap (λ r. under outer c g ∷ r) (map_under outer c gates)

-- a hiding inside a context inside a larger one, at a gate that is listed or not
under_if : (outer c : Context) (g : ℕ) (b : Bool) →
    image_through outer (if b then made_internal g else c g) ≡ (if b then made_internal g else under outer c g)
under_if outer c g true = refl
under_if outer c g false = refl

-- a hiding inside a context inside a larger one is inside that one
under_hiding : (outer c : Context) (gates : List ℕ) → under outer (with_hiding c gates) ≡ with_hiding (under outer c) gates
under_hiding outer c gates = λ j g. under_if outer c g (is_in_list gates g) j

module _ (system : List Process) where
  -- the term has a step of which its context makes the same, to a term that is alike to the one after the first step
  abbrev Follows : Context → Event → Term → Context → Term → Type 0
  Follows c e t' d u = (f : Event) × (u' : Term) × Does system u f u' × (seen_through c e ≡ seen_through d f) × AreAlikeIn system c t' d u'

  -- so it is with each step of the first term
  abbrev Matches : Context → Term → Context → Term → Type 0
  Matches c t d u = (e : Event) (t' : Term) → Does system t e t' → Follows c e t' d u

  -- a step of a relabelling as one of the term in it
  record Relabelled (m : List (ℕ × ℕ)) (b : Term) (e : Event) (t' : Term) : Type 0 where
    inner : Event
    after : Term
    step : Does system b inner after
    event : e ≡ relabelled m inner
    term : t' ≡ relabel m after

  -- a step of a hiding as one of the term in it
  record Hiding (gates : List ℕ) (b : Term) (e : Event) (t' : Term) : Type 0 where
    inner : Event
    after : Term
    step : Does system b inner after
    event : e ≡ hidden gates inner
    term : t' ≡ hide gates after

  -- a relabelled action of a gate is an action of a gate
  gate_relabelled : (m : List (ℕ × ℕ)) (b v : Term) (g : ℕ) (k : Label) → Relabels m k (l.Gate g) → Step system b k v →
      Relabelled m b (gate g) (relabel m v)
  gate_relabelled m b v g l.Exit r st = elim r [ ]
  gate_relabelled m b v g l.Internal r st = elim r [ ]
  gate_relabelled m b v g (l.Gate h) r st = record {
    inner = gate h;
    after = v;
    step = st;
    event = let same : l.Gate (actual_gate m h) ≡ l.Gate g = relabelled_is r in cc;
    term = refl;
  }

  -- a relabelled termination is termination
  end_relabelled : (m : List (ℕ × ℕ)) (b v : Term) (k : Label) → Relabels m k l.Exit → Step system b k v →
      Relabelled m b termination (relabel m v)
  end_relabelled m b v l.Exit r st = record { inner = termination; after = v; step = st; event = refl; term = refl }
  end_relabelled m b v l.Internal r st = elim r [ ]
  end_relabelled m b v (l.Gate h) r st =
      absurd (let same : l.Gate (actual_gate m h) ≡ l.Exit = relabelled_is r in cc)

  -- each step of a relabelling is made of one of the term in it
  of_relabel : (m : List (ℕ × ℕ)) (b t' : Term) (e : Event) → Does system (relabel m b) e t' → Relabelled m b e t'
  of_relabel m b t' (gate g) (s.relabels {t = v} {k = k} r st) = gate_relabelled m b v g k r st
  of_relabel m b t' termination (s.relabels {t = v} {k = k} r st) = end_relabelled m b v k r st
  of_relabel m b t' (inside o) (i.relabels {t = v} st) =
      record { inner = inside o; after = v; step = st; event = refl; term = refl }

  -- each step of a term makes one of its relabelling
  does_relabel : (m : List (ℕ × ℕ)) (b v : Term) (e : Event) → Does system b e v → Does system (relabel m b) (relabelled m e) (relabel m v)
  does_relabel m b v (gate g) st = s.relabels (relabels_gate m g) st
  does_relabel m b v termination st = s.relabels s.exit_stays st
  does_relabel m b v (inside o) st = i.relabels st

  -- each step of a hiding is made of one of the term in it
  of_hide : (gates : List ℕ) (b t' : Term) (e : Event) → Does system (hide gates b) e t' → Hiding gates b e t'
  of_hide gates b t' (gate g) (s.shows {t = v} visible st) = record {
    inner = gate g;
    after = v;
    step = st;
    event = rw (not_true (is_in_list gates g) (λ x. visible (listed_in gates g x))) refl;
    term = refl;
  }
  of_hide gates b t' termination (s.shows {t = v} visible st) =
      record { inner = termination; after = v; step = st; event = refl; term = refl }
  of_hide gates b t' (inside o) (i.hides {t = v} {g = g} listed st) =
      record { inner = gate g; after = v; step = st; event = rw (listed_true gates g listed) refl; term = refl }
  of_hide gates b t' (inside o) (i.shows {t = v} st) =
      record { inner = inside o; after = v; step = st; event = refl; term = refl }

  -- an action of a gate makes a step of a hiding, whether the gate is listed or not
  gate_hidden : (gates : List ℕ) (b v : Term) (g : ℕ) (x : Bool) → is_in_list gates g ≡ x → Step system b (l.Gate g) v →
      Does system (hide gates b) (if x then inside (origin.Hidden g) else gate g) (hide gates v)
  gate_hidden gates b v g true e st = i.hides (listed_in gates g e) st
  gate_hidden gates b v g false e st = s.shows (λ x. let t = listed_true gates g x in cc) st

  -- each step of a term makes one of its hiding
  does_hide : (gates : List ℕ) (b v : Term) (e : Event) → Does system b e v → Does system (hide gates b) (hidden gates e) (hide gates v)
  does_hide gates b v (gate g) st = gate_hidden gates b v g (is_in_list gates g) refl st
  does_hide gates b v termination st = s.shows tt st
  does_hide gates b v (inside o) st = i.shows st

  -- an internal step of a call is one of the relabelled body of its process
  unfolded : (p : ℕ) (gates : List ℕ) (q : Process) (o : Origin) (t' : Term) → slice_get system p ≡ Some q → InternalStep system (call p gates) o t' →
      InternalStep system (relabel (zip q.formals gates) q.body) o t'
  unfolded p gates q o t' at (i.calls {q = r} there st) =
      let same : r ≡ q = cc in
      let P : Process → Type 0 = λ x. InternalStep system (relabel (zip x.formals gates) x.body) o t' in
      subst P same st

  -- a step of a call is one of the relabelled body of its process
  of_call : (p : ℕ) (gates : List ℕ) (q : Process) (t' : Term) (e : Event) → slice_get system p ≡ Some q → Does system (call p gates) e t' →
      Does system (relabel (zip q.formals gates) q.body) e t'
  of_call p gates q t' (gate g) at st = (unfolds system p gates q at (l.Gate g) t').0 st
  of_call p gates q t' termination at st = (unfolds system p gates q at l.Exit t').0 st
  of_call p gates q t' (inside o) at st = unfolded p gates q o t' at st

  -- a step of the relabelled body of a process is one of its call
  does_call : (p : ℕ) (gates : List ℕ) (q : Process) (t' : Term) (e : Event) → slice_get system p ≡ Some q →
      Does system (relabel (zip q.formals gates) q.body) e t' → Does system (call p gates) e t'
  does_call p gates q t' (gate g) at st = s.calls at st
  does_call p gates q t' termination at st = s.calls at st
  does_call p gates q t' (inside o) at st = i.calls at st

  -- another step than termination of the left operand is one of an enabling
  does_goes_on : (b v c : Term) (e : Event) → e ≢ termination → Does system b e v → Does system (enable b c) e (enable v c)
  does_goes_on b v c (gate g) other st = s.goes_on tt st
  does_goes_on b v c termination other st = absurd (other refl)
  does_goes_on b v c (inside o) other st = i.goes_on st

  -- another step than termination of the left operand is one of a disabling
  does_undisturbed : (b v c : Term) (e : Event) → e ≢ termination → Does system b e v → Does system (disable b c) e (disable v c)
  does_undisturbed b v c (gate g) other st = s.goes_on_undisturbed tt st
  does_undisturbed b v c termination other st = absurd (other refl)
  does_undisturbed b v c (inside o) other st = i.goes_on_undisturbed st

  -- a step of the right operand is one of a disabling
  does_disables : (b c v : Term) (e : Event) → Does system c e v → Does system (disable b c) e v
  does_disables b c v (gate g) st = s.disables st
  does_disables b c v termination st = s.disables st
  does_disables b c v (inside o) st = i.disables st

  -- contexts that make the same of each gate of an alphabet of a term make the same of its steps
  seen_on : (c d : Context) (gates : List ℕ) (t t' : Term) (e : Event) → IsClosedSystem system → HasAlphabet system gates t →
      ((g : ℕ) → In g gates → c g ≡ d g) → Does system t e t' → seen_through c e ≡ seen_through d e
  seen_on c d gates t t' (gate g) whole within same st = ap event_of (same g (shows_among system whole st gates within))
  seen_on c d gates t t' termination whole within same st = refl
  seen_on c d gates t t' (inside o) whole within same st = refl

  -- an alphabet of a term is one of the term after a step
  within_after : (gates : List ℕ) (t t' : Term) (e : Event) → IsClosedSystem system → HasAlphabet system gates t → Does system t e t' →
      HasAlphabet system gates t'
  within_after gates t t' (gate g) whole within st = stays_within system whole st gates within
  within_after gates t t' termination whole within st = stays_within system whole st gates within
  within_after gates t t' (inside o) whole within st = stays_within system whole (is_step system st) gates within

  -- a term follows itself in contexts that make the same of each gate of an alphabet of it
  same_follows : (c d : Context) (gates : List ℕ) (t t' : Term) (e : Event) → IsClosedSystem system → HasAlphabet system gates t →
      ((g : ℕ) → In g gates → c g ≡ d g) → Does system t e t' → Follows c e t' d t
  same_follows c d gates t t' e whole within same st =
      (e, t', st, seen_on c d gates t t' e whole within same st, a.same_on gates whole (within_after gates t t' e whole within st) same)

  -- a call follows one of the same process, if the contexts make the same of the actual gates
  call_follows : (c d : Context) (p : ℕ) (gates others : List ℕ) (q : Process) (t' : Term) (e : Event) → IsClosedSystem system → slice_get system p ≡ Some q →
      length gates ≡ length q.formals → map c gates ≡ map d others → Does system (call p gates) e t' → Follows c e t' d (call p others)
  call_follows c d p gates others q t' e whole at fits same st =
      let m = zip q.formals gates in
      let n = zip q.formals others in
      let r = of_relabel m q.body t' e (of_call p gates q t' e at st) in
      let alike = zip_alike c d q.formals gates others fits same in
      let within = whole p q at in
      let seen : seen_through c e ≡ seen_through d (relabelled n r.inner) = ap (seen_through c) r.event ∙ seen_relabelled c m r.inner ∙
      seen_on (with_relabelling c m) (with_relabelling d n) q.formals q.body r.after r.inner whole within alike r.step ∙
      sym (seen_relabelled d n r.inner) in
      let after : AreAlikeIn system c (relabel m r.after) d (relabel n r.after) =
      a.relabelled_left (a.relabelled_right (a.same_on q.formals whole (within_after q.formals q.body r.after r.inner whole within r.step) alike)) in (
        relabelled n r.inner,
        relabel n r.after,
        does_call p others q (relabel n r.after) (relabelled n r.inner) at (does_relabel n q.body r.after r.inner r.step),
        seen,
        subst (λ z. AreAlikeIn system c z d (relabel n r.after)) (sym r.term) after,
      )

  -- a term follows a relabelling of another one, if it follows that one with the relabelling inside the context
  relabel_follows : (c d : Context) (m : List (ℕ × ℕ)) (t u t' : Term) (e : Event) → Matches (with_relabelling c m) t d u →
      Does system (relabel m t) e t' → Follows c e t' d u
  relabel_follows c d m t u t' e match st =
      let r = of_relabel m t t' e st in
      let (f, u', further, same, alike) = match r.inner r.after r.step in (
        f,
        u',
        further,
        ap (seen_through c) r.event ∙ seen_relabelled c m r.inner ∙ same,
        subst (λ z. AreAlikeIn system c z d u') (sym r.term) (a.relabelled_left alike),
      )

  -- a term follows a hiding of another one, if it follows that one with the hiding inside the context
  hide_follows : (c d : Context) (gates : List ℕ) (t u t' : Term) (e : Event) → Matches (with_hiding c gates) t d u →
      Does system (hide gates t) e t' → Follows c e t' d u
  hide_follows c d gates t u t' e match st =
      let r = of_hide gates t t' e st in
      let (f, u', further, same, alike) = match r.inner r.after r.step in (
        f,
        u',
        further,
        ap (seen_through c) r.event ∙ seen_hidden c gates r.inner ∙ same,
        subst (λ z. AreAlikeIn system c z d u') (sym r.term) (a.hidden_left alike),
      )

  -- what a term follows with a relabelling inside its context, its relabelling follows
  relabel_leads : (c d : Context) (m : List (ℕ × ℕ)) (u t' : Term) (e : Event) → Follows c e t' (with_relabelling d m) u → Follows c e t' d (relabel m u)
  relabel_leads c d m u t' e (f, u', further, same, alike) =
      (relabelled m f, relabel m u', does_relabel m u u' f further, same ∙ sym (seen_relabelled d m f), a.relabelled_right alike)

  -- what a term follows with a hiding inside its context, its hiding follows
  hide_leads : (c d : Context) (gates : List ℕ) (u t' : Term) (e : Event) → Follows c e t' (with_hiding d gates) u → Follows c e t' d (hide gates u)
  hide_leads c d gates u t' e (f, u', further, same, alike) =
      (hidden gates f, hide gates u', does_hide gates u u' f further, same ∙ sym (seen_hidden d gates f), a.hidden_right alike)

  -- without a context the step is the same
  pub bare_follows : (u t' : Term) (e : Event) → Follows bare e t' bare u → (u' : Term) × Does system u e u' × DoAlike system t' u'
  bare_follows u t' e (f, u', further, same, alike) =
      let is : f ≡ e = sym (sym (seen_bare e) ∙ same ∙ seen_bare f) in
      (u', subst (λ g. Does system u g u') is further, alike)

  -- a parallel composition follows one whose operands its own operands follow
  par_follows : (c d : Context) (b x v y t' : Term) (z : Option (List ℕ)) (e : Event) → ((g : ℕ) → c g ≡ d g) → DoAlike system b v →
      DoAlike system x y → Matches bare b bare v → Matches bare x bare y → Does system (par b z x) e t' → Follows c e t' d (par v z y)
  par_follows c d b x v y t' z (gate g) same left right f h (s.synchronizes {t = b'} {u = x'} both r q) =
      let (v', one, front) = bare_follows v b' (gate g) (f (gate g) b' r) in
      let (y', other, back) = bare_follows y x' (gate g) (h (gate g) x' q) in
      (gate g, par v' z y', s.synchronizes both one other, seen_alike c d same (gate g), a.parallels same front back)
  par_follows c d b x v y t' z (gate g) same left right f h (s.interleaves_left {t = b'} apart r) =
      let (v', one, front) = bare_follows v b' (gate g) (f (gate g) b' r) in
      (gate g, par v' z y, s.interleaves_left apart one, seen_alike c d same (gate g), a.parallels same front right)
  par_follows c d b x v y t' z (gate g) same left right f h (s.interleaves_right {u = x'} apart q) =
      let (y', other, back) = bare_follows y x' (gate g) (h (gate g) x' q) in
      (gate g, par v z y', s.interleaves_right apart other, seen_alike c d same (gate g), a.parallels same left back)
  par_follows c d b x v y t' z termination same left right f h (s.synchronizes {t = b'} {u = x'} both r q) =
      let (v', one, front) = bare_follows v b' termination (f termination b' r) in
      let (y', other, back) = bare_follows y x' termination (h termination x' q) in
      (termination, par v' z y', s.synchronizes both one other, refl, a.parallels same front back)
  par_follows c d b x v y t' z termination same left right f h (s.interleaves_left {t = b'} apart r) = absurd (apart tt)
  par_follows c d b x v y t' z termination same left right f h (s.interleaves_right {u = x'} apart q) = absurd (apart tt)
  par_follows c d b x v y t' z (inside o) same left right f h (i.interleaves_left {t = b'} r) =
      let (v', one, front) = bare_follows v b' (inside o) (f (inside o) b' r) in
      (inside o, par v' z y, i.interleaves_left one, refl, a.parallels same front right)
  par_follows c d b x v y t' z (inside o) same left right f h (i.interleaves_right {u = x'} q) =
      let (y', other, back) = bare_follows y x' (inside o) (h (inside o) x' q) in
      (inside o, par v z y', i.interleaves_right other, refl, a.parallels same left back)

  -- an enabling goes on as its left operand does
  enable_leads : (c d : Context) (b' x v y : Term) (e : Event) → e ≢ termination → AreAlikeIn system c x d y → Follows c e b' d v →
      Follows c e (enable b' x) d (enable v y)
  enable_leads c d b' x v y e other right (f, v', further, same, alike) =
      (f, enable v' y, does_goes_on v v' y f (seen_going_on c d e f other same) further, same, a.enablings alike right)

  -- an operand that follows termination terminates
  end_follows : (c d : Context) (b' v : Term) → Follows c termination b' d v → (v' : Term) × Step system v l.Exit v' × AreAlikeIn system c b' d v'
  end_follows c d b' v (f, v', further, same, alike) = (v', subst (λ g. Does system v g v') (seen_end d f (sym same)) further, alike)

  -- an enabling follows one whose operands its own operands follow
  enable_follows : (c d : Context) (b x v y t' : Term) (e : Event) → AreAlikeIn system c x d y → Matches c b d v → Does system (enable b x) e t' →
      Follows c e t' d (enable v y)
  enable_follows c d b x v y t' (gate g) right f (s.goes_on {t = b'} other r) = enable_leads c d b' x v y (gate g) (λ is. cc) right (f (gate g) b' r)
  enable_follows c d b x v y t' termination right f (s.goes_on other r) = absurd other
  enable_follows c d b x v y t' (inside o) right f (i.goes_on {t = b'} r) = enable_leads c d b' x v y (inside o) (λ is. cc) right (f (inside o) b' r)
  enable_follows c d b x v y t' (inside o) right f (i.enables {t = b'} r) =
      let (v', further, alike) = end_follows c d b' v (f termination b' r) in
      (inside origin.Termination, y, i.enables further, refl, right)

  -- a disabling goes on as its left operand does
  undisturbed_leads : (c d : Context) (b' x v y : Term) (e : Event) → e ≢ termination → AreAlikeIn system c x d y → Follows c e b' d v →
      Follows c e (disable b' x) d (disable v y)
  undisturbed_leads c d b' x v y e other right (f, v', further, same, alike) =
      (f, disable v' y, does_undisturbed v v' y f (seen_going_on c d e f other same) further, same, a.disablings alike right)

  -- a disabling does what its right operand does
  disables_leads : (c d : Context) (t' v y : Term) (e : Event) → Follows c e t' d y → Follows c e t' d (disable v y)
  disables_leads c d t' v y e (f, y', further, same, alike) = (f, y', does_disables v y y' f further, same, alike)

  -- a disabling follows one whose operands its own operands follow
  disable_follows : (c d : Context) (b x v y t' : Term) (e : Event) → AreAlikeIn system c x d y → Matches c b d v → Matches c x d y →
      Does system (disable b x) e t' → Follows c e t' d (disable v y)
  disable_follows c d b x v y t' (gate g) right f h (s.goes_on_undisturbed {t = b'} other r) =
      undisturbed_leads c d b' x v y (gate g) (λ is. cc) right (f (gate g) b' r)
  disable_follows c d b x v y t' (gate g) right f h (s.disables q) = disables_leads c d t' v y (gate g) (h (gate g) t' q)
  disable_follows c d b x v y t' termination right f h (s.goes_on_undisturbed other r) = absurd other
  disable_follows c d b x v y t' termination right f h (s.ends {t = b'} r) =
      let (v', further, alike) = end_follows c d b' v (f termination b' r) in
      (termination, v', s.ends further, refl, alike)
  disable_follows c d b x v y t' termination right f h (s.disables q) = disables_leads c d t' v y termination (h termination t' q)
  disable_follows c d b x v y t' (inside o) right f h (i.goes_on_undisturbed {t = b'} r) =
      undisturbed_leads c d b' x v y (inside o) (λ is. cc) right (f (inside o) b' r)
  disable_follows c d b x v y t' (inside o) right f h (i.disables q) = disables_leads c d t' v y (inside o) (h (inside o) t' q)

  -- each step of the first of two terms that are alike in contexts is followed by one of the second
  pub alike_follows : {c d : Context} {t u : Term} → AreAlikeIn system c t d u → (e : Event) (t' : Term) → Does system t e t' →
      (f : Event) × (u' : Term) × Does system u f u' × (seen_through c e ≡ seen_through d f) × AreAlikeIn system c t' d u'
  alike_follows (a.same {c} {d} same) e t' st = (e, t', st, seen_alike c d same e, a.same same)
  alike_follows (a.same_on {c} {d} {t} gates whole within same) e t' st = same_follows c d gates t t' e whole within same st
  alike_follows (a.calls {c} {d} {p} {gates} {others} {q} whole at fits same) e t' st = call_follows c d p gates others q t' e whole at fits same st
  alike_follows (a.relabelled_left {c} {d} {pairs} {t} {u} h) e t' st = relabel_follows c d pairs t u t' e (λ f v r. alike_follows h f v r) st
  alike_follows (a.relabelled_right {c} {d} {pairs} {t} {u} h) e t' st = relabel_leads c d pairs u t' e (alike_follows h e t' st)
  alike_follows (a.hidden_left {c} {d} {gates} {t} {u} h) e t' st = hide_follows c d gates t u t' e (λ f v r. alike_follows h f v r) st
  alike_follows (a.hidden_right {c} {d} {gates} {t} {u} h) e t' st = hide_leads c d gates u t' e (alike_follows h e t' st)
  alike_follows (a.parallels {c} {d} {a = x} {b = v} {x = y} {y = w} {s = z} same left right) e t' st =
      par_follows c d x v y w t' z e same left right (λ f b r. alike_follows left f b r) (λ f b r. alike_follows right f b r) st
  alike_follows (a.enablings {c} {d} {a = x} {b = v} {x = y} {y = w} left right) e t' st =
      enable_follows c d x v y w t' e right (λ f b r. alike_follows left f b r) st
  alike_follows (a.disablings {c} {d} {a = x} {b = v} {x = y} {y = w} left right) e t' st =
      disable_follows c d x v y w t' e right (λ f b r. alike_follows left f b r) (λ f b r. alike_follows right f b r) st

  -- terms that are alike in contexts are alike in larger ones
  pub alike_under : (outer : Context) {c d : Context} {t u : Term} → AreAlikeIn system c t d u → AreAlikeIn system (under outer c) t (under outer d) u
  alike_under outer (a.same same) = a.same (λ g. ap (image_through outer) (same g))
  alike_under outer (a.same_on gates whole within same) = a.same_on gates whole within (λ g listed. ap (image_through outer) (same g listed))
  alike_under outer (a.calls {c} {d} {gates = gates} {others = others} whole at fits same) =
      a.calls whole at fits (map_under outer c gates ∙ ap (map (image_through outer)) same ∙ sym (map_under outer d others))
  alike_under outer (a.relabelled_left h) = a.relabelled_left (alike_under outer h)
  alike_under outer (a.relabelled_right h) = a.relabelled_right (alike_under outer h)
  alike_under outer (a.hidden_left {c} {d} {gates} {t} {u} h) =
      a.hidden_left (subst (λ k. AreAlikeIn system k t (under outer d) u) (under_hiding outer c gates) (alike_under outer h))
  alike_under outer (a.hidden_right {c} {d} {gates} {t} {u} h) =
      a.hidden_right (subst (λ k. AreAlikeIn system (under outer c) t k u) (under_hiding outer d gates) (alike_under outer h))
  alike_under outer (a.parallels same left right) = a.parallels (λ g. ap (image_through outer) (same g)) left right
  alike_under outer (a.enablings left right) = a.enablings (alike_under outer left) (alike_under outer right)
  alike_under outer (a.disablings left right) = a.disablings (alike_under outer left) (alike_under outer right)
