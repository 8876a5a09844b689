-- Slot by slot, each with the keys that go to it, is run by run of the keys: slots do not fall along rising keys, so the keys of
-- a slot stand together, after those of the slots before, and slots without keys leave the memory as it is. Assumes nothing.
use Rattle.std.specs.Prelude.{None, Option, Some}
use mathlib.Core.List.{List, [], ◌∷◌}
use mathlib.Core.Logic.{⊎_elim}
use mathlib.Core.Path.{◌≡◌, refl, sym, ap, ◌∙◌}
use Prim.Native.Nat.{ℕ, zero, suc, ◌+◌, ◌-◌, ◌<◌, ◌≤◌}
use native.Mathlib.Nat.{sub-zero, suc-sub-suc}
use native.Mathlib.Omega.{arith}
use borrow.Author.Tests.{ltb-true, ltb-false, lt-ltb, le-ltb, eq-eqb, ne_eqb}
use lib.Dec.{ltb}
use lib.ListN.{length, get_or, take, drop}
use Rattle.laws.specs.Keys.{Rising}
use Rattle.laws.proofs.Parts.{length_part, get_or-part}
use Rattle.laws.proofs.Risings.{rising_tail}
use Rattle.laws.proofs.Tests.{both, le_or_lt}
use Rattle.model.specs.Groups.{keys_to, count_before}
use Rattle.model.specs.Slots.{value_of, slot_of, InRange}
use Rattle.model.specs.declared.Model.{Model}
use Rattle.model.proofs.Groups.{slots_rise, before_within, before_all, group_part}
use Rattle.model.proofs.Slots.{slot_under}
use Rattle.pool.specs.Memory.{Mem}
use Rattle.pool.specs.Writing.{put_data, put_child}
use Rattle.pool.specs.declared.Node.{Node}
use Rattle.build.specs.Building.{Out, out, next, and_then, Builder, with_slots, payloads_to, fill_slot, fill_slots}
use Rattle.build.specs.Runs.{RunEnd, group_at}

-- the slot of the key at place i
abbrev pub slot_at : Model → List ℕ → ℕ → ℕ
slot_at md ks i = slot_of md (value_of (get_or ks i 0))

-- How many keys go to slots before s.
module _ (md : Model) where
  pub before_is : (s : ℕ) (ks : List ℕ) (b : ℕ) → b ≤ length ks
      → ((i : ℕ) → i < b → slot_at md ks i < s)
      → ((i : ℕ) → b ≤ i → i < length ks → s ≤ slot_at md ks i)
      → count_before md s ks ≡ b
  unfolding count_before
  before_is s [] b le below from = omega arith
  before_is s (k ∷ ks) zero le below from =
      rw (le-ltb (slot_of md k) s (from 0 (omega arith) (omega arith)))
      (before_is s ks 0 (omega arith) (λ i h. absurd (omega arith)) (λ i h lt. from (suc i) (omega arith) (omega arith)))
  before_is s (k ∷ ks) (suc b) le below from =
      rw (lt-ltb (slot_of md k) s (below 0 (omega arith)))
      (ap suc (before_is s ks b (omega arith) (λ i h. below (suc i) (omega arith)) (λ i h lt. from (suc i) (omega arith) (omega arith))))

  before_climbs : (s t : ℕ) (ks : List ℕ) → s ≤ t → count_before md s ks ≤ count_before md t ks
  unfolding count_before
  before_climbs s t [] le = omega arith
  before_climbs s t (k ∷ ks) le =
      let ih : count_before md s ks ≤ count_before md t ks = before_climbs s t ks le in
      both (ltb (slot_of md k) s)
      (λ e. rw (e, lt-ltb (slot_of md k) t (omega (arith, ltb-true (slot_of md k) s e))) (omega arith))
      (λ e. rw e (both (ltb (slot_of md k) t) (λ d. rw d (omega arith)) (λ d. rw d ih)))

  -- slots from the first one on
  pub before_none : (ks : List ℕ) → count_before md 0 ks ≡ 0
  before_none ks = before_is 0 ks 0 (omega arith) (λ i h. absurd (omega arith)) (λ i h lt. omega arith)

  module _ (r : InRange md) where
    none_before : (s k : ℕ) (ks : List ℕ) → Rising (k ∷ ks) → s ≤ slot_of md k → count_before md s ks ≡ 0
    none_before s k ks h le =
        before_is s ks 0 (omega arith) (λ i lt. absurd (omega arith))
        (λ i a lt. omega (arith, slots_rise md r (k ∷ ks) h 0 (suc i) (omega arith) (omega arith)))

    -- the keys before are those of the slots before
    abbrev Parts : ℕ → List ℕ → Type 0
    Parts s ks =
        ((i : ℕ) → i < count_before md s ks → slot_at md ks i < s)
        × ((i : ℕ) → count_before md s ks ≤ i → i < length ks → s ≤ slot_at md ks i)

    before_cons : (s k : ℕ) (ks : List ℕ) → slot_of md k < s → count_before md s (k ∷ ks) ≡ suc (count_before md s ks) → Parts s ks → Parts s (k ∷ ks)
    before_cons s k ks lt e ih = (below, from)
      where
        below : (i : ℕ) → i < count_before md s (k ∷ ks) → slot_at md (k ∷ ks) i < s
        below zero h = lt
        below (suc i) h = ih.0 i (omega arith)

        from : (i : ℕ) → count_before md s (k ∷ ks) ≤ i → i < length (k ∷ ks) → s ≤ slot_at md (k ∷ ks) i
        from zero h l = absurd (omega arith)
        from (suc i) h l = ih.1 i (omega arith) (omega arith)

    pub before_parts : (s : ℕ) (ks : List ℕ) → Rising ks → Parts s ks
    unfolding count_before
    before_parts s [] h = (λ i lt. absurd (omega arith), λ i a lt. absurd (omega arith))
    before_parts s (k ∷ ks) h =
        both (ltb (slot_of md k) s)
        (λ e. before_cons s k ks (ltb-true (slot_of md k) s e) (rw e) (before_parts s ks (rising_tail k ks h)))
        (λ e.
        let le : s ≤ slot_of md k = ltb-false (slot_of md k) s e in
        let z : count_before md s (k ∷ ks) ≡ 0 = rw e (none_before s k ks h le) in (
          (λ i lt. absurd (omega arith)),
          (λ i a lt. omega (arith, slots_rise md r (k ∷ ks) h 0 i (omega arith) lt)),
        ))

    -- the payloads of a group are the same part of theirs
    pub payloads_part : (ks ps : List ℕ) → length ps ≡ length ks → Rising ks → (s : ℕ)
        → payloads_to md s ks ps ≡ take (count_before md (s + 1) ks - count_before md s ks) (drop (count_before md s ks) ps)
    unfolding payloads_to count_before
    payloads_part [] [] e h s = refl
    payloads_part [] (p ∷ ps) e h s = absurd (omega arith)
    payloads_part (k ∷ ks) [] e h s = absurd (omega arith)
    payloads_part (k ∷ ks) (p ∷ ps) e h s =
        let ih = payloads_part ks ps (omega arith) (rising_tail k ks h) s in
        ⊎_elim
        (λ a.
        ⊎_elim
        (λ b.
        let z : count_before md s ks ≡ 0 = none_before s k ks h (omega arith) in
        rw (lt-ltb (slot_of md k) (s + 1) (omega arith), le-ltb (slot_of md k) s (omega arith), eq-eqb (slot_of md k) s (omega arith), z, sub-zero)
        (ap (λ (g : List ℕ). p ∷ g) (rw (z, sub-zero) at ih)))
        (λ b. rw (lt-ltb (slot_of md k) (s + 1) (omega arith), lt-ltb (slot_of md k) s b, ne_eqb (slot_of md k) s (omega arith), suc-sub-suc) ih)
        (le_or_lt s (slot_of md k)))
        (λ a.
        let z : count_before md s ks ≡ 0 = none_before s k ks h (omega arith) in
        let y : count_before md (s + 1) ks ≡ 0 = none_before (s + 1) k ks h (omega arith) in
        rw (le-ltb (slot_of md k) (s + 1) (omega arith), le-ltb (slot_of md k) s (omega arith), ne_eqb (slot_of md k) s (omega arith), y, z) (rw (y, z) at ih))
        (le_or_lt (slot_of md k) s)

    -- a run ends after as many keys as go to its slot and those before it
    pub run_counted : (ks : List ℕ) → Rising ks → (a b : ℕ) → RunEnd md ks a b → b ≡ count_before md (slot_at md ks a + 1) ks
    run_counted ks h a b run =
        sym
        (before_is (slot_at md ks a + 1) ks b run.within
        (λ i lt. omega (arith, run.shared (b - 1) (omega arith) (omega arith), slots_rise md r ks h i (b - 1) (omega arith) (omega arith)))
        (λ i le lt. omega (arith, run.parts (omega arith), slots_rise md r ks h a b (omega arith) (omega arith), slots_rise md r ks h b i le lt)))

-- A slot with one key, with several, and then the others.
module _ (B : Builder) (r q : ℕ) (ps : List ℕ) (m : Mem) where
  fill_one : (ks : List ℕ) → length ks ≡ 1 → fill_slot B r q ks ps m ≡ out (Some r) (with_slots m (put_data m.slots q (get_or ks 0 0) (get_or ps 0 0)))
  unfolding fill_slot
  fill_one [] e = absurd (omega arith)
  fill_one (k ∷ []) e = refl
  fill_one (k ∷ j ∷ ks) e = absurd (omega arith)

  through_group : (b : Option ℕ) (x : Mem)
      → next b x (λ c m'. out (Some r) (with_slots m' (put_child m'.slots q c)))
      ≡ and_then (next b x (λ c m'. out (Some c) (with_slots m' (put_child m'.slots q c)))) (λ c m'. out (Some r) m')
  through_group (Some c) x = refl
  through_group None x = refl

  fill_several : (ks : List ℕ) → 2 ≤ length ks → fill_slot B r q ks ps m ≡ and_then (group_at B q ks ps m) (λ c m'. out (Some r) m')
  unfolding fill_slot group_at
  fill_several [] h = absurd (omega arith)
  fill_several (k ∷ []) h = absurd (omega arith)
  fill_several (k ∷ j ∷ ks) h = let o = B (k ∷ j ∷ ks) ps m in through_group o.built o.memory

-- The loop over the runs of keys has come to key a: the keys before it are those of the slots before some slot, and to fill the
-- slots from that one on is to fill all.
pub record Filled (B : Builder) (r : ℕ) (n : Node) (ks ps : List ℕ) (a : ℕ) (m : Mem) (whole : Out) : Type 0 where
  pub slot : ℕ
  pub within : slot ≤ n.model.l
  pub reached : count_before n.model slot ks ≡ a
  pub rest : fill_slots B r n (n.model.l - slot) slot ks ps m ≡ whole

module _ (B : Builder) (r : ℕ) (n : Node) (ks ps : List ℕ) (h : Rising ks) (range : InRange n.model) (same : length ps ≡ length ks) where
  abbrev md : Model
  md = n.model

  -- a slot without keys
  over_one : (s j : ℕ) (m : Mem) → count_before md (s + 1) ks ≡ count_before md s ks → fill_slots B r n (suc j) s ks ps m ≡ fill_slots B r n j (s + 1) ks ps m
  unfolding fill_slots fill_slot
  over_one s j m e =
      let z : count_before md (s + 1) ks - count_before md s ks ≡ 0 = omega arith in
      let none : keys_to md s ks ≡ [] = rw z at (group_part md range ks h s) in
      rw none

  over : (d s t : ℕ) (m : Mem) → t ≡ s + d → t ≤ md.l → count_before md t ks ≡ count_before md s ks
      → fill_slots B r n (md.l - s) s ks ps m ≡ fill_slots B r n (md.l - t) t ks ps m
  over zero s t m e le c = let q : t ≡ s = omega arith in rw q
  over (suc d) s t m e le c =
      let f : md.l - s ≡ suc (md.l - (s + 1)) = omega arith in
      let up : count_before md s ks ≤ count_before md (s + 1) ks = before_climbs md s (s + 1) ks (omega arith) in
      let down : count_before md (s + 1) ks ≤ count_before md t ks = before_climbs md (s + 1) t ks (omega arith) in
      rw f (over_one s (md.l - (s + 1)) m (omega arith)) ∙ over d (s + 1) t m (omega arith) le (omega arith)

  pub filled_start : (m : Mem) → Filled B r n ks ps 0 m (fill_slots B r n md.l 0 ks ps m)
  filled_start m = record {
    slot = 0;
    within = omega arith;
    reached = before_none md ks;
    rest = let e : md.l - 0 ≡ md.l = omega arith in rw e;
  }

  pub filled_end : (a : ℕ) (m : Mem) (whole : Out) → Filled B r n ks ps a m whole → length ks ≤ a → out (Some r) m ≡ whole
  unfolding fill_slots
  filled_end a m whole f le =
      let s = f.slot in
      let all : count_before md md.l ks ≡ length ks = before_all md range ks in
      let some : count_before md s ks ≤ length ks = before_within md s ks in
      let z : md.l - md.l ≡ 0 = omega arith in
      (rw z at (sym (over (md.l - s) s md.l m (omega (arith, f.within)) (omega arith) (omega (arith, f.reached))))) ∙ f.rest

  -- One turn: from key a on, the keys up to b, which go to slot t.
  module _ (a t b : ℕ) (m : Mem) (whole : Out) (f : Filled B r n ks ps a m whole) (lt : a < length ks) (et : t ≡ slot_at md ks a) (eb : b ≡ count_before md (t + 1) ks) where
    abbrev keys : List ℕ
    keys = take (b - a) (drop a ks)

    abbrev payloads : List ℕ
    payloads = take (b - a) (drop a ps)

    reach : (f.slot ≤ t) × (count_before md t ks ≡ a)
    reach =
        let p = before_parts md range f.slot ks h in
        let up : f.slot ≤ t = omega (arith, p.1 a (omega (arith, f.reached)) lt) in (
          up,
          before_is md t ks a (omega arith)
              (λ i l. omega (arith, p.0 i (omega (arith, f.reached))))
              (λ i x l. omega (arith, slots_rise md range ks h a i x l)),
        )

    turn : whole ≡ and_then (fill_slot B r (n.start + t) keys payloads m) (λ c m'. fill_slots B r n (md.l - (t + 1)) (t + 1) ks ps m')
    unfolding fill_slots
    turn =
        let up : f.slot ≤ t = reach.0 in
        let at : count_before md t ks ≡ a = reach.1 in
        let under : t < md.l = rw et (slot_under md range (get_or ks a 0)) in
        let e : md.l - t ≡ suc (md.l - (t + 1)) = omega arith in
        let kk : keys_to md t ks ≡ keys = rw (← eb, at) at (group_part md range ks h t) in
        let pp : payloads_to md t ks ps ≡ payloads = rw (← eb, at) at (payloads_part md range ks ps same h t) in
        sym f.rest
        ∙ over (t - f.slot) f.slot t m (omega arith) (omega arith) (omega (arith, f.reached))
        ∙ rw (e, kk, pp)

    -- the slots after
    abbrev later : Mem → Out
    later m' = fill_slots B r n (md.l - (t + 1)) (t + 1) ks ps m'

    pub filled_next : (m' : Mem) → later m' ≡ whole → Filled B r n ks ps b m' whole
    filled_next m' e = record {
      slot = t + 1;
      within = let under : t < md.l = rw et (slot_under md range (get_or ks a 0)) in omega arith;
      reached = sym eb;
      rest = e;
    }

    pub filled_data : (m' : Mem) → b - a ≡ 1 → m' ≡ with_slots m (put_data m.slots (n.start + t) (get_or ks a 0) (get_or ps a 0)) → Filled B r n ks ps b m' whole
    filled_data m' one e =
        let within : b ≤ length ks = rw eb (before_within md (t + 1) ks) in
        let z : a + 0 ≡ a = omega arith in
        let k0 : get_or keys 0 0 ≡ get_or ks a 0 = rw z at (get_or-part ks a b 0 (omega arith)) in
        let p0 : get_or payloads 0 0 ≡ get_or ps a 0 = rw z at (get_or-part ps a b 0 (omega arith)) in
        let d : fill_slot B r (n.start + t) keys payloads m ≡ out (Some r) (with_slots m (put_data m.slots (n.start + t) (get_or keys 0 0) (get_or payloads 0 0)))
        = fill_one B r (n.start + t) payloads m keys (length_part ks a b within ∙ one) in
        filled_next m' (rw e (sym (turn ∙ rw (d, k0, p0))))

    module _ (several : b - a ≡ 1 → ⊥) (some : a < b) where
      by_group : fill_slot B r (n.start + t) keys payloads m ≡ and_then (group_at B (n.start + t) keys payloads m) (λ c m'. out (Some r) m')
      by_group =
          let within : b ≤ length ks = rw eb (before_within md (t + 1) ks) in
          fill_several B r (n.start + t) payloads m keys (rw (length_part ks a b within) (omega (arith, several)))

      pub filled_group : (c : ℕ) (m' : Mem) → out (Some c) m' ≡ group_at B (n.start + t) keys payloads m → Filled B r n ks ps b m' whole
      filled_group c m' e = filled_next m' (sym (turn ∙ rw (by_group, ← e)))

      pub filled_full : (m' : Mem) → out None m' ≡ group_at B (n.start + t) keys payloads m → out None m' ≡ whole
      filled_full m' e = sym (turn ∙ rw (by_group, ← e))
