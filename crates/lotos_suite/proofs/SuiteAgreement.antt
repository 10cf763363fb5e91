-- An implementation that agrees on the words of a suite can do the same as the machine.
use Rattle.std.proofs.Common.{◌≡◌, ◌⊎◌, ◌↔◌, ◌∙◌, ◌≤◌, ◌+◌, ℕ, zero, suc, List, [], ◌∷◌, ◌++◌, Option, None, Some, length, map, ap, arith, inl, inr, refl, subst, sym}
use Rattle.std.specs.Prelude.{slice_get}
use Rattle.std.proofs.lemmas.Bool.{cases_eq}
use Rattle.std.proofs.lemmas.List.{append_assoc, append-nil, length-append, length-map}
use Rattle.lotos_check.specs.NameLists.{In}
use Rattle.lotos_check.proofs.ListIndices.{get_in, get_map, in_get}
use Rattle.lotos_listing.specs.Order.{Label}
use Rattle.lotos_suite.specs.Machines.{CanDo, CanDoFrom, IsMachineOver, Machine, state_after}
use Rattle.lotos_suite.specs.Suites.{AreOf, AreSuiteParts, IsFront, IsWord, SuiteParts}
use Rattle.lotos_suite.proofs.DistinctNumbers.{AreDifferent, all_in, different_by_index, in_or_not}
use Rattle.lotos_suite.proofs.MachineRuns.{can_both, can_rest, first_step, one_number, some_apart, state_below, step_last, step_then}

-- the number, or 0
abbrev number_of : Option ℕ → ℕ
number_of None = 0
number_of (Some q) = q

module _ (m implementation : Machine) (parts : SuiteParts) (over : IsMachineOver parts.labels m) (over_too : IsMachineOver parts.labels implementation)
    (suited : AreSuiteParts m parts) (agree : (u : List Label) → IsWord parts u → CanDo m u ↔ CanDo implementation u) where
  -- the sequence leads to this state of the machine, and to that of the implementation
  record LeadsTo (u : List Label) (j q : ℕ) : Type 0 where
    pub here : state_after m 0 u ≡ Some j
    pub there : state_after implementation 0 u ≡ Some q

  -- the beginning of a word is a word
  front_word : (u : List Label) → IsFront parts (parts.extra + 1) u → IsWord parts u
  front_word u front = record { front = u; rest = []; is = sym (append-nil u); begins = front; ends = inl refl }

  -- and so is it with a sequence that tells states apart
  longer_word : (u w : List Label) → IsFront parts (parts.extra + 1) u → In w parts.apart → IsWord parts (u ++ w)
  longer_word u w front i = record { front = u; rest = w; is = refl; begins = front; ends = inr i }

  -- what the first of two states can do, and the implementation after the words that lead there, the second can do
  carried : (u v w : List Label) (j k q : ℕ) → IsFront parts (parts.extra + 1) u → IsFront parts (parts.extra + 1) v → LeadsTo u j q → LeadsTo v k q →
      In w parts.apart → CanDoFrom m j w → CanDoFrom m k w
  carried u v w j k q front front_too first second i can =
      let both : CanDo m (u ++ w) = can_both m 0 j u w first.here can in
      let there : CanDo implementation (u ++ w) = (agree (u ++ w) (longer_word u w front i)).0 both in
      let rest : CanDoFrom implementation q w = can_rest implementation 0 q u w first.there there in
      let again : CanDo implementation (v ++ w) = can_both implementation 0 q v w second.there rest in
      let back : CanDo m (v ++ w) = (agree (v ++ w) (longer_word v w front_too i)).1 again in
      can_rest m 0 k v w second.here back

  -- two words that lead to one state of the implementation lead to one of the machine
  one_state : (u v : List Label) (j k q : ℕ) → IsFront parts (parts.extra + 1) u → IsFront parts (parts.extra + 1) v → LeadsTo u j q → LeadsTo v k q → j ≡ k
  one_state u v j k q front front_too first second = elim (cases_eq j k) [
    | inl same ↦ same
    | inr other ↦
        let below = state_below m parts.labels over 0 j u over.start first.here in
        let below_too = state_below m parts.labels over 0 k v over.start second.here in
        let (w, i, tells) = suited.apart j k below below_too other in
        absurd (elim tells [
          | inl (can, cannot) ↦ cannot (carried u v w j k q front front_too first second i can)
          | inr (can, cannot) ↦ cannot (carried v u w k j q front_too front second first i can)
        ])
  ]

  -- a word that the machine can do leads to a state of the implementation too
  leads_too : (u : List Label) (j : ℕ) → IsFront parts (parts.extra + 1) u → state_after m 0 u ≡ Some j → (q : ℕ) × LeadsTo u j q
  leads_too u j front here =
      let (q, there) = (agree u (front_word u front)).0 (j, here) in (q, record { here = here; there = there })

  -- and the other way round
  leads_back : (u : List Label) (q : ℕ) → IsFront parts (parts.extra + 1) u → state_after implementation 0 u ≡ Some q → (j : ℕ) × LeadsTo u j q
  leads_back u q front there =
      let (j, here) = (agree u (front_word u front)).1 (q, there) in (j, record { here = here; there = there })

  -- an access sequence with at most so many labels after it has at most more
  wider : (i n : ℕ) (u : List Label) → i ≤ n → IsFront parts i u → IsFront parts n u
  wider i n u less front =
      let short = front.short in
      record { access = front.access; labels = front.labels; is = front.is; leads = front.leads; known = front.known; short = omega arith }

  -- with one more label
  one_more : (i : ℕ) (u : List Label) (l : Label) → IsFront parts i u → In l parts.labels → IsFront parts (i + 1) (u ++ l ∷ [])
  one_more i u l front known =
      let short = front.short in
      let long : length (front.labels ++ l ∷ []) ≡ length front.labels + 1 = length-append front.labels (l ∷ []) in
      record {
        access = front.access;
        labels = front.labels ++ l ∷ [];
        is = ap (λ x. x ++ l ∷ []) front.is ∙ append_assoc front.access front.labels (l ∷ []);
        leads = front.leads;
        known = in_more front.labels l front.known known;
        short = omega arith;
      }
    where
      in_more : (s : List Label) (l : Label) → AreOf parts.labels s → In l parts.labels → AreOf parts.labels (s ++ l ∷ [])
      in_more [] l all known k (inl same) = subst (λ x. In x parts.labels) same known
      in_more [] l all known k (inr i) = absurd i
      in_more (x ∷ s) l all known k (inl same) = all k (inl same)
      in_more (x ∷ s) l all known k (inr i) = in_more s l (λ z j. all z (inr j)) known k i

  -- states of the implementation, each reached by an access sequence with at most `i` labels after it, the first one
  -- among them
  record AreReached (i : ℕ) (ds : List ℕ) : Type 0 where
    pub different : AreDifferent ds
    pub starts : In 0 ds
    pub words : (d : ℕ) → In d ds → (u : List Label) × IsFront parts i u × (state_after implementation 0 u ≡ Some d)

  -- no step leads out of the list
  abbrev IsClosed : List ℕ → Type 0
  IsClosed ds = (d e : ℕ) (l : Label) → In d ds → implementation.next d l ≡ Some e → In e ds

  -- a step by one of the labels leads out of the list
  record Escape (ds : List ℕ) : Type 0 where
    pub from : ℕ
    pub to : ℕ
    pub label : Label
    pub among : In from ds
    pub known : In label parts.labels
    pub step : implementation.next from label ≡ Some to
    pub new : In to ds → ⊥

  -- from one state by one label
  escape_by : (ds : List ℕ) (d : ℕ) (l : Label) → In d ds → In l parts.labels →
      Escape ds ⊎ ((e : ℕ) → implementation.next d l ≡ Some e → In e ds)
  escape_by ds d l i known = by (implementation.next d l) refl
    where
      by : (o : Option ℕ) → implementation.next d l ≡ o → Escape ds ⊎ ((e : ℕ) → implementation.next d l ≡ Some e → In e ds)
      by None is = inr (λ e step. absurd (some_apart (sym is ∙ step)))
      by (Some e) is = elim (in_or_not ds e) [
        | inl there ↦ inr (λ f step. subst (λ x. In x ds) (one_number e f (sym is ∙ step)) there)
        | inr missing ↦ inl (record { from = d; to = e; label = l; among = i; known = known; step = is; new = missing })
      ]

  -- from one state
  escape_from : (ds : List ℕ) (d : ℕ) (labels : List Label) → In d ds → AreOf parts.labels labels →
      Escape ds ⊎ ((l : Label) (e : ℕ) → In l labels → implementation.next d l ≡ Some e → In e ds)
  escape_from ds d [] i known = inr (λ l e j. absurd j)
  escape_from ds d (l ∷ labels) i known = elim (escape_by ds d l i (known l (inl refl))) [
    | inl out ↦ inl out
    | inr within ↦ elim (escape_from ds d labels i (λ k j. known k (inr j))) [
      | inl out ↦ inl out
      | inr rest ↦ inr (λ k e j step. elim j [
        | inl same ↦ within e (subst (λ x. implementation.next d x ≡ Some e) (sym same) step)
        | inr j ↦ rest k e j step
      ])
    ]
  ]

  -- from any
  escape_any : (ds some : List ℕ) → ((d : ℕ) → In d some → In d ds) →
      Escape ds ⊎ ((d e : ℕ) (l : Label) → In d some → implementation.next d l ≡ Some e → In e ds)
  escape_any ds [] among = inr (λ d e l i. absurd i)
  escape_any ds (d ∷ some) among = elim (escape_from ds d parts.labels (among d (inl refl)) (λ l i. i)) [
    | inl out ↦ inl out
    | inr within ↦ elim (escape_any ds some (λ e i. among e (inr i))) [
      | inl out ↦ inl out
      | inr rest ↦ inr (λ c e l i step. elim i [
        | inl same ↦ within l e (over_too.known d e l (subst (λ x. implementation.next x l ≡ Some e) (sym same) step))
            (subst (λ x. implementation.next x l ≡ Some e) (sym same) step)
        | inr j ↦ rest c e l j step
      ])
    ]
  ]

  -- the state of the implementation after an access sequence
  abbrev landing : List Label → ℕ
  landing r = number_of (state_after implementation 0 r)

  -- an access sequence is the beginning of a word
  access_front : (n : ℕ) (r : List Label) → In r parts.access → IsFront parts n r
  access_front n r i = record {
    access = r;
    labels = [];
    is = sym (append-nil r);
    leads = i;
    known = λ l j. absurd j;
    short = omega arith;
  }

  -- and leads there
  lands : (k : ℕ) (r : List Label) → slice_get parts.access k ≡ Some r → LeadsTo r k (landing r)
  lands k r at =
      let (q, leads) = leads_too r k (access_front (parts.extra + 1) r (get_in parts.access k r at)) (suited.access.leads k r at) in
      record { here = leads.here; there = leads.there ∙ ap Some (sym (ap number_of leads.there)) }

  -- the states after access sequences
  first_reached : AreReached 0 (map landing parts.access)
  first_reached = record {
    different = different_by_index (map landing parts.access) (λ j k n at there.
        let (r, first, is) = get_map landing parts.access j n at in
        let (t, second, too) = get_map landing parts.access k n there in
        let both : landing t ≡ landing r = too ∙ sym is in
        one_state r t j k (landing r) (access_front (parts.extra + 1) r (get_in parts.access j r first))
        (access_front (parts.extra + 1) t (get_in parts.access k t second)) (lands j r first)
        (subst (LeadsTo t k) both (lands k t second)));
    starts = get_in (map landing parts.access) 0 0 (starts parts.access suited.access.starts);
    words = λ d i.
        let (k, at) = in_get (map landing parts.access) d i in
        let (r, there, is) = get_map landing parts.access k d at in
        (r, access_front 0 r (get_in parts.access k r there), (lands k r there).there ∙ ap Some is);
  }
    where
      starts : (access : List (List Label)) → slice_get access 0 ≡ Some [] → slice_get (map landing access) 0 ≡ Some 0
      starts [] e = cc
      starts (r ∷ rest) e = let same : r ≡ [] = cc in ap (λ x. Some (landing x)) same

  -- a list of reached states that is closed, or has so many
  abbrev HasMany : ℕ → Type 0
  HasMany i = (ds : List ℕ) × AreReached i ds × (IsClosed ds ⊎ (m.states + i ≤ length ds))

  -- one more step reaches one more state, or the list is closed
  many : (i : ℕ) → HasMany i
  many zero =
      let counted = suited.access.counted in
      let long = length-map parts.access landing in
      (map landing parts.access, first_reached, inr (omega arith))
  many (suc i) = go_on (many i)
    where
      go_on : HasMany i → HasMany (suc i)
      go_on (ds, reached, inl closed) = (
        ds,
        record {
          different = reached.different;
          starts = reached.starts;
          words = λ d j. let (u, front, leads) = reached.words d j in (u, wider i (suc i) u (omega arith) front, leads);
        },
        inl closed,
      )
      go_on (ds, reached, inr count) = elim (escape_any ds ds (λ d j. j)) [
        | inr closed ↦ (
          ds,
          record {
            different = reached.different;
            starts = reached.starts;
            words = λ d j. let (u, front, leads) = reached.words d j in (u, wider i (suc i) u (omega arith) front, leads);
          },
          inl closed,
        )
        | inl out ↦ (
          out.to ∷ ds,
          record {
            different = (out.new, reached.different);
            starts = inr reached.starts;
            words = λ d j. elim j [
              | inl same ↦
                  let (u, front, leads) = reached.words out.from out.among in
                  let next = one_more i u out.label front out.known in (
                    u ++ out.label ∷ [],
                    wider (i + 1) (suc i) (u ++ out.label ∷ []) (omega arith) next,
                    step_last implementation 0 out.from out.to u out.label leads out.step ∙ ap Some same,
                  )
              | inr j ↦ let (u, front, leads) = reached.words d j in (u, wider i (suc i) u (omega arith) front, leads)
            ];
          },
          inr (omega arith),
        )
      ]

  module _ (few : implementation.states ≤ m.states + parts.extra) where
    -- so all states of the implementation are reached by words without their last label
    all_reached : (ds : List ℕ) × AreReached parts.extra ds × IsClosed ds
    all_reached = by (many parts.extra)
      where
        by : HasMany parts.extra → (ds : List ℕ) × AreReached parts.extra ds × IsClosed ds
        by (ds, reached, inl closed) = (ds, reached, closed)
        by (ds, reached, inr count) = (
          ds,
          reached,
          λ d e l i step.
              all_in implementation.states ds reached.different (λ c j.
              let (u, front, leads) = reached.words c j in
              state_below implementation parts.labels over_too 0 c u over_too.start leads) (omega arith) e (over_too.below d e l step),
        )

    module _ (ds : List ℕ) (reached : AreReached parts.extra ds) (closed : IsClosed ds) where
      -- the states are reached by one such word
      record AreLike (j q : ℕ) : Type 0 where
        pub among : In q ds
        pub word : List Label
        pub front : IsFront parts parts.extra word
        pub leads : LeadsTo word j q

      -- a state of the list is like one of the machine
      like_of : (q : ℕ) → In q ds → (j : ℕ) × AreLike j q
      like_of q i =
          let (u, front, there) = reached.words q i in
          let (j, leads) = leads_back u q (wider parts.extra (parts.extra + 1) u (omega arith) front) there in
          (j, record { among = i; word = u; front = front; leads = leads })

      -- steps by one label lead from states that are alike to states that are alike
      like_next : (j q k r : ℕ) (l : Label) → AreLike j q → m.next j l ≡ Some k → implementation.next q l ≡ Some r → AreLike k r
      like_next j q k r l like step step_too =
          let next = one_more parts.extra like.word l like.front (over.known j k l step) in
          let leads : LeadsTo (like.word ++ l ∷ []) k r = record {
            here = step_last m 0 j k like.word l like.leads.here step;
            there = step_last implementation 0 q r like.word l like.leads.there step_too;
          } in
          let (z, other) = like_of r (closed q r l like.among step_too) in
          let same : z ≡ k = one_state other.word (like.word ++ l ∷ []) z k r
          (wider parts.extra (parts.extra + 1) other.word (omega arith) other.front) next other.leads leads in
          subst (λ x. AreLike x r) same other

      -- a step of the one is one of the other
      step_there : (j q k : ℕ) (l : Label) → AreLike j q → m.next j l ≡ Some k → (r : ℕ) × (implementation.next q l ≡ Some r)
      step_there j q k l like step =
          let next = one_more parts.extra like.word l like.front (over.known j k l step) in
          let (z, there) = leads_too (like.word ++ l ∷ []) k next (step_last m 0 j k like.word l like.leads.here step) in
          let (r, is, rest) = first_step implementation q l [] (can_rest implementation 0 q like.word (l ∷ []) like.leads.there (z, there.there)) in
          (r, is)

      -- and the other way round
      step_back : (j q r : ℕ) (l : Label) → AreLike j q → implementation.next q l ≡ Some r → (k : ℕ) × (m.next j l ≡ Some k)
      step_back j q r l like step =
          let next = one_more parts.extra like.word l like.front (over_too.known q r l step) in
          let (z, here) = leads_back (like.word ++ l ∷ []) r next (step_last implementation 0 q r like.word l like.leads.there step) in
          let (k, is, rest) = first_step m j l [] (can_rest m 0 j like.word (l ∷ []) like.leads.here (z, here.here)) in
          (k, is)

      -- so states that are alike can do the same
      same_from : (s : List Label) (j q : ℕ) → AreLike j q → CanDoFrom m j s ↔ CanDoFrom implementation q s
      same_from [] j q like = ((λ can. (q, refl)), (λ can. (j, refl)))
      same_from (l ∷ s) j q like = (
        (λ can.
            let (k, step, rest) = first_step m j l s can in
            let (r, step_too) = step_there j q k l like step in
            step_then implementation q r l s step_too ((same_from s k r (like_next j q k r l like step step_too)).0 rest)),
        (λ can.
            let (r, step, rest) = first_step implementation q l s can in
            let (k, step_too) = step_back j q r l like step in
            step_then m j k l s step_too ((same_from s k r (like_next j q k r l like step_too step)).1 rest)),
      )

    -- the machine and the implementation can do the same
    pub same_sequences : (s : List Label) → CanDo m s ↔ CanDo implementation s
    same_sequences s =
        let (ds, reached, closed) = all_reached in
        let start = get_in parts.access 0 [] suited.access.starts in
        same_from ds reached closed s 0 0 (record {
          among = reached.starts;
          word = [];
          front = access_front parts.extra [] start;
          leads = record { here = refl; there = refl };
        })
