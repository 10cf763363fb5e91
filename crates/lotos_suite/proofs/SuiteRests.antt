-- What completes a prefix with one more label to a word.
use Rattle.std.proofs.Common.{◌≡◌, ◌≢◌, ◌⊎◌, ◌↔◌, ◌∙◌, ◌<◌, ◌+◌, ℕ, zero, suc, Bool, true, false, List, [], ◌∷◌, ◌++◌, Option, None, Some, MatchBool, MatchOption, length, ap, arith, inl, inr, refl, subst, sym, slice_get}
use Rattle.std.specs.Option.{unwrap_or}
use Rattle.std.proofs.lemmas.List.{append_assoc, append-nil, map-append}
use Rattle.std.proofs.lemmas.Option.{slice_get_within}
use Rattle.lotos_check.proofs.JoinedLists.{in_added}
use Rattle.lotos_suite.proofs.LabelIndices.{index_same}
use Rattle.lotos_check.proofs.ListIndices.{get_in, get_some, in_get, one_item}
use Rattle.lotos_suite.proofs.MachineRuns.{after_both, one_number, some_apart, step_last}
use Rattle.lotos_suite.proofs.SuiteFronts.{LastLabel, TwoCuts, begin_access, earlier, front_begin, front_next, front_up, last, last_label, later, no_last, none, same_last, two_cuts}
use Rattle.lotos_suite.specs.ApartSearch.{IsByStep, IsLonger}
use Rattle.lotos_suite.specs.Machines.{CanDo, onward, state_after}
use Rattle.lotos_check.specs.NameLists.{In}
use Rattle.lotos_listing.specs.Order.{Label}
use Rattle.lotos_suite.specs.SuitePrefixes.{AreRests, AreRestsAnd, AreRestsOf, BeginsWord, IsExtension, IsFrontAs, IsOpen, IsPrefix, IsSetting, front_then, labels_at, step_of}
use Rattle.lotos_suite.specs.SuiteTables.{IsAccessMove, IsMove, Subject}
use Rattle.lotos_suite.specs.Suites.{IsFront, SuiteParts}
use Rattle.lotos_suite.specs.declared.apart_sequences.ApartStep.{ApartStep}
use Rattle.lotos_suite.specs.declared.moves.Move.{Move}
use Rattle.lotos_suite.specs.declared.prefixes.Front.{Front}
use Rattle.lotos_suite.specs.declared.prefixes.Front.TheVariants.{Access, Longer, Past}
use Rattle.lotos_suite.specs.declared.prefixes.Prefix.{Prefix}

-- an empty list has no items
no_item : {X : Type 0} (xs : List X) → length xs ≡ 0 → (x : X) → In x xs → ⊥
no_item [] e x i = i
no_item (y ∷ xs) e x i = omega arith

-- a sequence with a last label is not empty
not_empty : (v : List Label) (x : Label) → v ++ x ∷ [] ≢ []
not_empty v x e = no_last v x (sym e)

module _ (s : Subject) (extra : ℕ) (parts : SuiteParts) (steps : List (Option ApartStep)) (sequences : List (List Label))
    (set : IsSetting s extra parts steps sequences) (i : ℕ) (x : Label) (label_is : slice_get s.labels i ≡ Some x) where
  -- ---- sequences by their first labels

  -- a sequence that begins with the label, by its step
  first_forth : (k r : ℕ) → slice_get steps k ≡ Some (Some (step_of i r)) →
      (w : List Label) × (slice_get sequences k ≡ Some (x ∷ w)) × (slice_get sequences r ≡ Some w)
  first_forth k r at =
      let within = slice_get_within steps k (Some (step_of i r)) at in
      let (v, here) = get_some sequences k (let c = set.by_steps.counted in omega arith) in
      let h : IsLonger s.labels sequences k (step_of i r) v = set.by_steps.each k (Some (step_of i r)) v at here in
      let same : h.label ≡ x = one_item s.labels i h.label x h.label_is label_is in
      (h.rest, here ∙ ap (λ z. Some z) (h.is ∙ ap (λ z. z ∷ h.rest) same), h.rest_is)

  -- and back
  first_back : (k : ℕ) (w : List Label) → slice_get sequences k ≡ Some (x ∷ w) →
      (r : ℕ) × (slice_get steps k ≡ Some (Some (step_of i r))) × (slice_get sequences r ≡ Some w)
  first_back k w here =
      let within = slice_get_within sequences k (x ∷ w) here in
      let (o, at) = get_some steps k (let c = set.by_steps.counted in omega arith) in
      by o at (set.by_steps.each k o (x ∷ w) at here)
    where
      by : (o : Option ApartStep) → slice_get steps k ≡ Some o → IsByStep s.labels sequences k o (x ∷ w) →
          (r : ℕ) × (slice_get steps k ≡ Some (Some (step_of i r))) × (slice_get sequences r ≡ Some w)
      by None at h = absurd (let z : suc (length w) ≡ 0 = ap length h in omega arith)
      by (Some step) at h =
          let head : x ≡ h.label = let e = h.is in cc in
          let tail : w ≡ h.rest = let e = h.is in cc in
          let label : step.label ≡ i = index_same s.labels set.subject.ascending step.label i x
          (subst (λ z. slice_get s.labels step.label ≡ Some z) (sym head) h.label_is) label_is in
          (step.rest, at ∙ ap (λ n. Some (Some (step_of n step.rest))) label, h.rest_is ∙ ap (λ z. Some z) (sym tail))

  -- ---- rests

  module _ (u : List Label) (old : List ℕ) (are : AreRests parts sequences old u) where
    -- a rest of a rest
    rest_sound : (r : ℕ) (k : ℕ) → In k old → slice_get steps k ≡ Some (Some (step_of i r)) →
        (front : List Label) × (begun : List Label) × (rest : List Label) × (u ++ x ∷ [] ≡ front ++ begun) ×
        IsFront parts (parts.extra + 1) front × (slice_get sequences r ≡ Some rest) × In (begun ++ rest) parts.apart
    rest_sound r k there at =
        let (w, here, rest_is) = first_forth k r at in
        let (front, begun, rest, same, is_front, rest_here, among) = are.sound k there in
        let equal : rest ≡ x ∷ w = one_item sequences k rest (x ∷ w) rest_here here in (
          front,
          begun ++ x ∷ [],
          w,
          ap (λ z. z ++ x ∷ []) same ∙ append_assoc front begun (x ∷ []),
          is_front,
          rest_is,
          subst (λ z. In z parts.apart) (ap (λ z. begun ++ z) equal ∙ sym (append_assoc begun (x ∷ []) w)) among,
        )

    -- the first label of what goes on after a front
    rest_all : (front begun rest : List Label) → u ++ x ∷ [] ≡ front ++ begun → begun ≢ [] → In (begun ++ rest) parts.apart →
        (IsFront parts (parts.extra + 1) front) →
        ((u ≡ front) × ((k : ℕ) × (r : ℕ) × (slice_get steps k ≡ Some (Some (step_of i r))) × (slice_get sequences r ≡ Some rest))) ⊎
        ((k : ℕ) × (r : ℕ) × In k old × (slice_get steps k ≡ Some (Some (step_of i r))) × (slice_get sequences r ≡ Some rest))
    rest_all front begun rest same some among is_front = by (last_label begun) same some among
      where
        by : {begun : List Label} → LastLabel begun → u ++ x ∷ [] ≡ front ++ begun → begun ≢ [] → In (begun ++ rest) parts.apart →
            ((u ≡ front) × ((k : ℕ) × (r : ℕ) × (slice_get steps k ≡ Some (Some (step_of i r))) × (slice_get sequences r ≡ Some rest))) ⊎
            ((k : ℕ) × (r : ℕ) × In k old × (slice_get steps k ≡ Some (Some (step_of i r))) × (slice_get sequences r ≡ Some rest))
        by none same some among = absurd (some refl)
        by (last [] y) same some among =
            let (p, q) = same_last u front x y same in
            let (k, positive, here) = set.there (y ∷ rest) among in
            let (r, at, rest_is) = first_back k rest (here ∙ ap (λ z. Some (z ∷ rest)) (sym q)) in
            inl (p, (k, r, at, rest_is))
        by (last (z ∷ v) y) same some among =
            let (p, q) = same_last u (front ++ z ∷ v) x y (same ∙ sym (append_assoc front (z ∷ v) (y ∷ []))) in
            let more : In ((z ∷ v) ++ x ∷ rest) parts.apart = subst (λ t. In t parts.apart)
            (append_assoc (z ∷ v) (y ∷ []) rest ∙ ap (λ t. (z ∷ v) ++ t ∷ rest) (sym q)) among in
            let (k, there, here) = are.all front (z ∷ v) (x ∷ rest) p (λ e. (let n : suc (length v) ≡ 0 = ap length e in omega arith)) is_front more in
            let (r, at, rest_is) = first_back k rest here in
            inr (k, r, there, at, rest_is)

    -- what completes the sequence with the label, if the sequence is no front
    pub rests_past : (new : List ℕ) → (IsFront parts (parts.extra + 1) u → ⊥) → AreRestsOf steps i old new → AreRests parts sequences new (u ++ x ∷ [])
    rests_past new past of = record {
      sound = λ r there. let (k, old_k, at) = of.sound r there in rest_sound r k old_k at;
      all = λ front begun rest same some is_front among. elim (rest_all front begun rest same some among is_front) [
        | inl (e, h) ↦ absurd (past (subst (IsFront parts (parts.extra + 1)) (sym e) is_front))
        | inr (k, r, old_k, at, rest_is) ↦ (r, of.all k r old_k at, rest_is)
      ];
    }

    -- and if it is one
    pub rests_front : (others new : List ℕ) → IsFront parts (parts.extra + 1) u → AreRestsOf steps i old others → AreRestsAnd steps i others new →
        AreRests parts sequences new (u ++ x ∷ [])
    rests_front others new is_front of and = record {
      sound = λ r there. elim (and.sound r there) [
        | inl before ↦ let (k, old_k, at) = of.sound r before in rest_sound r k old_k at
        | inr (k, at) ↦
            let (w, here, rest_is) = first_forth k r at in
            (u, x ∷ [], w, refl, is_front, rest_is, set.back k (x ∷ w) (positive k w here) here)
      ];
      all = λ front begun rest same some front_is among. elim (rest_all front begun rest same some among front_is) [
        | inl (e, (k, r, at, rest_is)) ↦ (r, and.all k r at, rest_is)
        | inr (k, r, old_k, at, rest_is) ↦ (r, and.kept r (of.all k r old_k at), rest_is)
      ];
    }
      where
        positive : (k : ℕ) (w : List Label) → slice_get sequences k ≡ Some (x ∷ w) → 0 < k
        positive zero w here = absurd (let e = one_item sequences 0 [] (x ∷ w) set.by_steps.starts here in let n : 0 ≡ suc (length w) = ap length e in
            omega arith)
        positive (suc k) w here = omega arith

-- ---- whether a line begins with the sequence

module _ (s : Subject) (extra : ℕ) (parts : SuiteParts) (steps : List (Option ApartStep)) (sequences : List (List Label))
    (set : IsSetting s extra parts steps sequences) where
  -- a front is one by how it is kept
  pub front_by : (front : Front) (u : List Label) → IsFrontAs parts front u → (front ≡ Past → ⊥) → IsFront parts (parts.extra + 1) u
  front_by Access u h other = front_up s set.subject extra parts steps sequences set 0 (parts.extra + 1) u (omega arith) h
  front_by (Longer left) u (n, some, sum, h, least) other = front_up s set.subject extra parts steps sequences set n (parts.extra + 1) u (omega arith) h
  front_by Past u h other = absurd (other refl)

  -- and none
  pub front_past : (front : Front) (u : List Label) → IsFrontAs parts front u → front ≡ Past → IsFront parts (parts.extra + 1) u → ⊥
  front_past front u h e = subst (λ f. IsFrontAs parts f u) e h

  module _ (u : List Label) (front : Front) (is : IsFrontAs parts front u) (rests : List ℕ) (are : AreRests parts sequences rests u) where
    -- a front begins a word
    pub begins_front : (front ≡ Past → ⊥) → BeginsWord parts u
    begins_front other = ([], record { front = u; rest = []; is = refl; begins = front_by front u is other; ends = inl refl })

    -- so does what is completed
    pub begins_rest : (k : ℕ) → In k rests → BeginsWord parts u
    begins_rest k there =
        let (f, begun, rest, same, is_front, rest_is, among) = are.sound k there in (
          rest,
          record {
            front = f;
            rest = begun ++ rest;
            is = ap (λ z. z ++ rest) same ∙ append_assoc f begun rest;
            begins = is_front;
            ends = inr among;
          },
        )

    -- and nothing else
    pub begins_none : front ≡ Past → length rests ≡ 0 → BeginsWord parts u → ⊥
    begins_none past empty (y, word) = by (two_cuts u y word.front word.rest word.is) word.begins word.ends
      where
        by : TwoCuts u y word.front word.rest → IsFront parts (parts.extra + 1) word.front → (word.rest ≡ []) ⊎ In word.rest parts.apart → ⊥
        by (later [] same rest) begins ends =
            front_past front u is past (subst (IsFront parts (parts.extra + 1)) (sym (same ∙ append-nil word.front)) begins)
        by (later (x ∷ z) same rest) begins (inl empty_rest) = (let n : 0 ≡ suc (length (z ++ y)) = ap length (sym empty_rest ∙ rest) in omega arith)
        by (later (x ∷ z) same rest) begins (inr among) =
            let (k, there, at) = are.all word.front (x ∷ z) y same (λ e. (let n : suc (length z) ≡ 0 = ap length e in omega arith)) begins
            (subst (λ w. In w parts.apart) rest among) in
            no_item rests empty k there
        by (earlier x z same rest) begins ends = front_past front u is past
            (front_begin s set.subject extra parts steps sequences set (parts.extra + 1) u (x ∷ z) (subst (IsFront parts (parts.extra + 1)) same begins))

-- ---- the prefix with one more label

-- a front is none or some
past_or_not : (front : Front) → (front ≡ Past) ⊎ (front ≡ Past → ⊥)
past_or_not Access = inr (λ e. cc)
past_or_not (Longer left) = inr (λ e. cc)
past_or_not Past = inl refl

-- a list that is not empty has an item
first_item : (xs : List ℕ) → (length xs ≡ 0 → ⊥) → (x : ℕ) × In x xs
first_item [] some = absurd (some refl)
first_item (x ∷ xs) some = (x, inl refl)

module _ (s : Subject) (parts : SuiteParts) (sequences : List (List Label)) (steps : List (Option ApartStep)) (extra : ℕ) (p : Prefix) (u : List Label)
    (i : ℕ) (x : Label) (step : Option Move) (ext : IsExtension s parts sequences steps extra p u i x step) where
  -- the machine can do the prefix
  can_do : CanDo s.machine u
  can_do = (ext.state, ext.prefix.state ∙ ext.state_is)

  -- the state after the label
  state_next : (state : Option ℕ) → MatchOption step (state ≡ None) (λ m. state ≡ Some m.state) → state_after s.machine 0 (u ++ x ∷ []) ≡ state
  state_next state is = after_both s.machine 0 ext.state u (x ∷ []) (ext.prefix.state ∙ ext.state_is) ∙ by step ext.leads is
    where
      by : (o : Option Move) → IsMove s ext.state x o → MatchOption o (state ≡ None) (λ m. state ≡ Some m.state) →
          onward (s.machine.next ext.state x) (λ v. Some v) ≡ state
      by None stops e = ap (λ o. onward o (λ v. Some v)) stops ∙ sym e
      by (Some m) (leads, first) e = ap (λ o. onward o (λ v. Some v)) leads ∙ sym e

  -- whether the label ends an access sequence
  first_next : (first : Bool) → MatchOption step (first ≡ false) (λ m. first ≡ m.is_first) →
      MatchBool first (In u parts.access → In (u ++ x ∷ []) parts.access) (In (u ++ x ∷ []) parts.access → ⊥) ⊎ (In u parts.access → ⊥)
  first_next first is = inl (by step ext.leads is)
    where
      access : List (List Label)
      access = parts.access

      -- the sequence is the access sequence of its state
      own : (w : List Label) (k j : ℕ) → slice_get access k ≡ Some w → state_after s.machine 0 w ≡ Some j → slice_get access j ≡ Some w
      own w k j at leads =
          subst (λ n. slice_get access n ≡ Some w) (one_number k j (sym (ext.setting.first.access.firsts k w at).leads ∙ leads)) at

      decide : (m : Move) → s.machine.next ext.state x ≡ Some m.state → ((m.is_first ≡ true) ↔ IsAccessMove s ext.state x m.state) →
          (b : Bool) → m.is_first ≡ b → MatchBool b (In u parts.access → In (u ++ x ∷ []) parts.access) (In (u ++ x ∷ []) parts.access → ⊥)
      decide m leads iff true e = λ there.
          let a = iff.0 e in
          let (k, at) = in_get access u there in
          let at_u = own u k ext.state at (ext.prefix.state ∙ ext.state_is) in
          let from = subst (λ z. slice_get z ext.state ≡ Some a.before) (sym ext.setting.access) a.from in
          let to = subst (λ z. slice_get z m.state ≡ Some (a.before ++ x ∷ [])) (sym ext.setting.access) a.leads in
          subst (λ z. In (z ++ x ∷ []) access) (one_item access ext.state a.before u from at_u) (get_in access m.state (a.before ++ x ∷ []) to)
      decide m leads iff false e = λ there.
          let (k, at) = in_get access (u ++ x ∷ []) there in
          let whole = own (u ++ x ∷ []) k m.state at (step_last s.machine 0 ext.state m.state u x (ext.prefix.state ∙ ext.state_is) leads) in
          let front = begin_access s ext.setting.subject extra parts steps sequences ext.setting u (x ∷ []) there in
          let (j, at_j) = in_get access u front in
          let at_u = own u j ext.state at_j (ext.prefix.state ∙ ext.state_is) in
          let is_true = iff.1 (record {
            before = u;
            from = subst (λ z. slice_get z ext.state ≡ Some u) ext.setting.access at_u;
            leads = subst (λ z. slice_get z m.state ≡ Some (u ++ x ∷ [])) ext.setting.access whole;
          }) in
          absurd (let z : true ≡ false = sym is_true ∙ e in cc)

      by : (o : Option Move) → IsMove s ext.state x o → MatchOption o (first ≡ false) (λ m. first ≡ m.is_first) →
          MatchBool first (In u parts.access → In (u ++ x ∷ []) parts.access) (In (u ++ x ∷ []) parts.access → ⊥)
      by None stuck e = subst (λ b. MatchBool b (In u parts.access → In (u ++ x ∷ []) parts.access) (In (u ++ x ∷ []) parts.access → ⊥)) (sym e) (λ there.
          let (k, at) = in_get access (u ++ x ∷ []) there in
          let leads = (ext.setting.first.access.firsts k (u ++ x ∷ []) at).leads in
          let stops = after_both s.machine 0 ext.state u (x ∷ []) (ext.prefix.state ∙ ext.state_is) ∙ ap (λ o. onward o (λ v. Some v)) stuck in
          some_apart (sym stops ∙ leads))
      by (Some m) (leads, iff) e =
          subst (λ b. MatchBool b (In u parts.access → In (u ++ x ∷ []) parts.access) (In (u ++ x ∷ []) parts.access → ⊥)) (sym e)
          (decide m leads iff m.is_first refl)

  -- the front after the label
  pub front_of_next : (first : Bool) → MatchOption step (first ≡ false) (λ m. first ≡ m.is_first) →
      IsFrontAs parts (front_then p.front first extra) (u ++ x ∷ [])
  front_of_next first is = front_next s ext.setting.subject extra parts steps sequences ext.setting p.front u x (get_in s.labels i x ext.label_is)
      ext.prefix.front first (first_next first is)

  -- the prefix with the label
  pub longer_prefix : (q : Prefix) → q.labels.items ≡ p.labels.items ++ i ∷ [] → MatchOption step (q.state ≡ None) (λ m. q.state ≡ Some m.state) →
      IsFrontAs parts q.front (u ++ x ∷ []) → AreRests parts sequences q.rests.items (u ++ x ∷ []) → BeginsWord parts (u ++ x ∷ []) →
      IsPrefix s parts sequences q (u ++ x ∷ [])
  longer_prefix q labels state front rests begins = record {
    labels = ap (λ z. z ++ x ∷ []) ext.prefix.labels ∙ ap (λ z. labels_at s.labels p.labels.items ++ z ∷ []) (sym (ap (λ o. unwrap_or o []) ext.label_is))
        ∙ sym (map-append (λ n. unwrap_or (slice_get s.labels n) []) p.labels.items (i ∷ [])) ∙ ap (labels_at s.labels) (sym labels);
    known = λ n j. elim (in_added n p.labels.items i (subst (In n) labels j)) [
      | inl old ↦ ext.prefix.known n old
      | inr same ↦ subst (λ z. z < length s.labels) same (slice_get_within s.labels i x ext.label_is)
    ];
    open_ = record { word = begins; can = λ v y e. subst (CanDo s.machine) (same_last u v x y e).0 can_do };
    state = state_next q.state state;
    front = front;
    rests = rests;
  }

  -- the rests after the label
  pub rests_of_next : (new : List ℕ) → (p.front ≡ Past → AreRestsOf steps i p.rests.items new) →
      ((p.front ≡ Past → ⊥) → (others : List ℕ) × AreRestsOf steps i p.rests.items others × AreRestsAnd steps i others new) →
      AreRests parts sequences new (u ++ x ∷ [])
  rests_of_next new past some = elim (past_or_not p.front) [
    | inl e ↦ rests_past s extra parts steps sequences ext.setting i x ext.label_is u p.rests.items ext.prefix.rests new
        (front_past s extra parts steps sequences ext.setting p.front u ext.prefix.front e) (past e)
    | inr other ↦
        let (others, of, and) = some other in
        rests_front s extra parts steps sequences ext.setting i x ext.label_is u p.rests.items ext.prefix.rests others new
        (front_by s extra parts steps sequences ext.setting p.front u ext.prefix.front other) of and
  ]

  -- no line begins with the prefix and the label
  pub not_added : (front : Front) (rests : List ℕ) → IsFrontAs parts front (u ++ x ∷ []) → AreRests parts sequences rests (u ++ x ∷ []) →
      (front ≡ Past) × (length rests ≡ 0) → IsOpen s.machine parts (u ++ x ∷ []) → ⊥
  not_added front rests is are (past, empty) open_ =
      begins_none s extra parts steps sequences ext.setting (u ++ x ∷ []) front is rests are past empty open_.word

  -- some line does
  pub added : (q : Prefix) → q.labels.items ≡ p.labels.items ++ i ∷ [] → MatchOption step (q.state ≡ None) (λ m. q.state ≡ Some m.state) →
      IsFrontAs parts q.front (u ++ x ∷ []) → AreRests parts sequences q.rests.items (u ++ x ∷ []) →
      ((q.front ≡ Past) × (length q.rests.items ≡ 0) → ⊥) → IsPrefix s parts sequences q (u ++ x ∷ [])
  added q labels state front rests some = longer_prefix q labels state front rests (elim (past_or_not q.front) [
    | inr other ↦ begins_front s extra parts steps sequences ext.setting (u ++ x ∷ []) q.front front q.rests.items rests other
    | inl past ↦
        let (k, there) = first_item q.rests.items (λ e. some (past, e)) in
        begins_rest s extra parts steps sequences ext.setting (u ++ x ∷ []) q.front front q.rests.items rests k there
  ])

  -- the numbers of what completes the prefix are those of sequences
  pub rest_inside : (k : ℕ) → In k p.rests.items → k < length steps
  rest_inside k there =
      let (front, begun, rest, same, is_front, here, among) = ext.prefix.rests.sound k there in
      let within = slice_get_within sequences k rest here in
      let counted = ext.setting.by_steps.counted in
      omega arith
