-- What is held after a schedule: each key is one of a text, and there are no more of them than VPEs have numbers.
use Rattle.std.proofs.Common.{◌≡◌, ℕ, ◌+◌, ◌*◌, ◌%◌, ◌<◌, ◌≤◌, ◌&&◌, Bool, true, false, not, List, [], ◌∷◌, length, refl, sym, ◌∙◌, ap, subst, inl, inr, arith}
use Rattle.std.proofs.Common.{eq-eqb, length-append}
use Rattle.std.specs.Prelude.{◌==◌, ◌/◌, nat_lt}
use Rattle.std.specs.List.{All, Contains, filter, flat_map, sum_by}
use Rattle.std.proofs.lemmas.Bool.{cases_Bool, eqb-true}
use Rattle.std.proofs.lemmas.List.{length-map, get_or_default}
use Rattle.std.proofs.lemmas.List.Sums.{sum_by-cons}
use Rattle.std.proofs.lemmas.List.Elements.{All-append, All-cons, All-filter, All-map, All-nil}
use Rattle.sem_key.specs.KeyName.{KeyName, key_lt}
use Rattle.sem_key.specs.Lists.{in_turn}
use Rattle.sem_key.specs.Capability.{Capability}
use Rattle.sem_key.specs.CapList.{with_cap}
use Rattle.sem_key.proofs.Members.{Contains-head, Contains-tail, Contains-from_flat_map}
use Rattle.sem_msg.specs.declared.entry.Entry.{Entry}
use Rattle.sem_msg.specs.Setup.{Setup, IsSetup}
use Rattle.sem_msg.specs.Lookups.{kernel_of}
use Rattle.sem_trace.specs.Ranges.{IsKeyInText}
use Rattle.sem_machine.specs.Sides.{Side, no_side, row}
use Rattle.sem_machine.specs.Machine.{World, side, start}
use Rattle.sem_machine.specs.Schedules.{IsSchedule, world_after}
use Rattle.sem_machine.specs.Sound.{IsSound, IsSoundCap, bit}
use Rattle.sem_machine.proofs.Folds.{in_turn-keeps_each}
use Rattle.sem_sound.specs.SoundWorlds.{IsSoundWorld}
use Rattle.sem_sound.proofs.Named.{declared-kernel}
use Rattle.sem_sound.proofs.Scheduling.{schedule-sound}
use Rattle.sem_machine.specs.HeldKeys.{held_after}
use Rattle.sem_fits.proofs.NearStarts.{declared-key}
use Rattle.sem_fits.proofs.NearWorlds.{NearWorld, start-near, run-near}
use Rattle.sem_fits.proofs.Pigeons.{pigeons, one_alone, sum-flat, sum-less, filter-parts}

-- a key is told by its VPE and its number
abbrev code : Capability → ℕ
code c = c.key.vpe * 4096 + c.key.number

-- where a sum of bits is no 0, something passes
some-has : {X : Type 0} (test : X → Bool) (xs : List X) → 1 ≤ sum_by (λ x. bit (test x)) xs → (x : X) × Contains xs x × (test x ≡ true)
some-has test [] some = absurd (omega (arith, some))
some-has test (x ∷ xs) some =
    let sums = sum_by-cons (λ y. bit (test y)) x xs in
    elim (cases_Bool (test x)) [
      | inl pass ↦ (x, Contains-head x xs, pass)
      | inr fails ↦
          let none : bit (test x) ≡ 0 = rw fails refl in
          let rest = some-has test xs (omega (arith, some, sums, none)) in
          (rest.0, Contains-tail x xs rest.0 rest.1, rest.2)
    ]

-- whether the key is that of a number of a VPE
abbrev is_at : ℕ → ℕ → Capability → Bool
is_at v n c = (c.key.vpe == v) && (c.key.number == n)

-- a code gives the VPE and the number back
code-parts : (c : Capability) (q : ℕ) → c.key.number < 4096 → bit (code c == q) ≤ bit (is_at (q / 4096) (q % 4096) c)
code-parts c q small = elim (cases_Bool (code c == q)) [
  | inl same ↦
      let is : c.key.vpe * 4096 + c.key.number ≡ q = eqb-true (code c) q same in
      let vpe : (c.key.vpe == (q / 4096)) ≡ true = eq-eqb c.key.vpe (q / 4096) (omega (arith, is, small)) in
      let number : (c.key.number == (q % 4096)) ≡ true = eq-eqb c.key.number (q % 4096) (omega (arith, is, small)) in
      rw (same, vpe, number) (omega arith)
  | inr other ↦ rw other (omega arith)
]

module _ (T : Setup) (valid : IsSetup T) (W : World) (near : NearWorld T W) (sound : IsSoundWorld T W) where
  -- a held capability is one of the side of a kernel
  held-sound : (c : Capability) → Contains (flat_map (λ (s : Side). s.caps) W.sides) c → (i : ℕ) × (i < T.kernels) × IsSoundCap T i c
  held-sound c among =
      let of_side = Contains-from_flat_map (λ (s : Side). s.caps) W.sides c among in
      from of_side.0 of_side.1 of_side.2
    where
      from : (s : Side) → Contains W.sides s → Contains s.caps c → (i : ℕ) × (i < T.kernels) × IsSoundCap T i c
      from s (i, within, same) in_side =
          let count = near.count in
          let few : i < T.kernels = omega (arith, within, count) in
          let here : side W i ≡ s = get_or_default W.sides i no_side s within ∙ same in
          (i, few, (sound.sides i few).caps c (subst (λ (t : Side). Contains t.caps c) (sym here) in_side))

  -- how many capabilities of a side have that code
  abbrev coded : ℕ → Side → ℕ
  coded q s = sum_by (λ c. bit (code c == q)) s.caps

  -- on a side no two have one code
  coded-once : (q i : ℕ) → i < T.kernels → coded q (side W i) ≤ 1
  coded-once q i few =
      let is : IsSound T i (side W i) = sound.sides i few in
      let used = is.numbers (q / 4096) (q % 4096) in
      let less = sum-less (λ c. bit (code c == q)) (λ c. bit (is_at (q / 4096) (q % 4096) c)) (side W i).caps
      (λ c among. code-parts c q ((is.caps c among).own.0.0.2)) in
      let most = bit-most (nat_lt (q % 4096) (row (side W i) (q / 4096)).next_number) in
      omega (arith, used, less, most)
    where
      bit-most : (b : Bool) → bit b ≤ 1
      bit-most true = omega arith
      bit-most false = omega arith

  -- and only of the side of the kernel of that VPE
  coded-here : (q i : ℕ) → i < T.kernels → 1 ≤ coded q (side W i) → i ≡ kernel_of T (q / 4096)
  coded-here q i few some = from (some-has (λ c. code c == q) (side W i).caps some)
    where
      from : (c : Capability) × Contains (side W i).caps c × ((code c == q) ≡ true) → i ≡ kernel_of T (q / 4096)
      from (c, among, same) =
          let is : IsSoundCap T i c = (sound.sides i few).caps c among in
          let number = is.own.0.0.2 in
          let coded' : c.key.vpe * 4096 + c.key.number ≡ q = eqb-true (code c) q same in
          let vpe : c.key.vpe ≡ q / 4096 = omega (arith, number, coded') in
          sym is.own.1 ∙ (sym (declared-kernel T c.key.pe c.key.vpe is.own.0.1) ∙ ap (kernel_of T) vpe)

  -- all held capabilities are no more than there are codes
  pub few-caps : length (flat_map (λ (s : Side). s.caps) W.sides) ≤ 524288
  few-caps = pigeons code 524288 (flat_map (λ (s : Side). s.caps) W.sides)
      (λ c among. let is = (held-sound c among).2 in let vpe = is.own.0.0.1 in let number = is.own.0.0.2 in omega (arith, vpe, number))
      (λ q.
      let flat = sum-flat (λ c. bit (code c == q)) (λ (s : Side). s.caps) W.sides in
      let count = near.count in
      let one = one_alone (coded q) no_side W.sides (kernel_of T (q / 4096)) (λ i within. coded-once q i (omega (arith, within, count)))
      (λ i within some. coded-here q i (omega (arith, within, count)) some) in
      omega (arith, flat, one))

-- each capability that is put in makes the list longer by one
inserted-length : (cs found : List Capability) → length (in_turn (λ c found. with_cap found c) cs found) ≡ length cs + length found
unfolding in_turn
inserted-length [] found = omega arith
inserted-length (c ∷ cs) found =
    let rest = inserted-length cs (with_cap found c) in
    let parts = filter-parts (λ (x : Capability). key_lt x.key c.key) found in
    let joined = length-append (filter (λ (x : Capability). key_lt x.key c.key) found) (c ∷ filter (λ (x : Capability). not (key_lt x.key c.key)) found) in
    omega (arith, rest, parts, joined)

module _ (T : Setup) (valid : IsSetup T) (J : List Entry) (runs : IsSchedule T J) where
  abbrev W : World
  W = world_after T J

  -- what is held are no more keys than VPEs have numbers
  pub few-held : length (held_after T J) ≤ 524288
  few-held =
      let cs : List Capability = flat_map (λ (s : Side). s.caps) W.sides in
      let all = few-caps T valid W (run-near T valid J (start T) (start-near T valid) runs) (schedule-sound T valid J runs) in
      let same = inserted-length cs [] in
      let mapped = length-map {B = KeyName × ℕ} (in_turn (λ c found. with_cap found c) cs []) (λ (c : Capability). (c.key, c.selector)) in
      omega (arith, all, same, mapped)

  -- a key of a text at a selector
  abbrev pub HeldCap : Capability → Type 0
  HeldCap c = IsKeyInText T.version c.key × (c.selector ≤ 255)

  -- one more that is put in
  put-in : (c : Capability) (found : List Capability) → HeldCap c → All HeldCap found → All HeldCap (with_cap found c)
  put-in c found here all = All-append HeldCap (filter (λ (x : Capability). key_lt x.key c.key) found)
      (c ∷ filter (λ (x : Capability). not (key_lt x.key c.key)) found) (All-filter (λ (x : Capability). key_lt x.key c.key) HeldCap found all)
      (All-cons HeldCap c (filter (λ (x : Capability). not (key_lt x.key c.key)) found) here
      (All-filter (λ (x : Capability). not (key_lt x.key c.key)) HeldCap found all))

  -- each is a key of a text, at a selector
  pub held-fits : All (λ h. IsKeyInText T.version h.0 × (h.1 ≤ 255)) (held_after T J)
  held-fits =
      let cs : List Capability = flat_map (λ (s : Side). s.caps) W.sides in
      let near = run-near T valid J (start T) (start-near T valid) runs in
      let sound = schedule-sound T valid J runs in
      let all : All HeldCap (in_turn (λ c found. with_cap found c) cs []) = in_turn-keeps_each (All HeldCap) (λ c found. with_cap found c) cs
      (λ c among found here. put-in c found (let is = (held-sound T valid W near sound c among).2 in (
        declared-key T valid c.key is.own.0,
        (let selector = is.selector in omega (arith, selector)),
      )) here) [] (All-nil HeldCap) in
      All-map (λ (h : KeyName × ℕ). IsKeyInText T.version h.0 × (h.1 ≤ 255)) (λ (c : Capability). (c.key, c.selector))
      (in_turn (λ c found. with_cap found c) cs []) all
