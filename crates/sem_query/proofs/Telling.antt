-- The life of a key along a schedule tells where the key was, all along.
use Rattle.std.proofs.Common.{◌≡◌, ◌⊎◌, ℕ, zero, suc, ◌+◌, ◌≤◌, Bool, true, false, List, [], ◌∷◌, ◌++◌, length, map, take, Option, Some, None, IsSome, refl}
use Rattle.std.proofs.Common.{sym, ap, ◌∙◌, subst, inl, inr, arith, append-nil, append_assoc, get_or}
use Rattle.std.specs.Prelude.{fold, if◌then◌else◌}
use Rattle.std.specs.List.{Contains, range_with_len}
use Rattle.std.specs.Option.{option_map, option_map_or}
use Rattle.std.proofs.lemmas.Bool.{cases_Bool, cases_eq, cond-true, cond-false, true≢false}
use Rattle.std.proofs.lemmas.List.{length-append, take-append-le, take_all}
use Rattle.std.proofs.lemmas.Option.{same_Some}
use Rattle.std.proofs.lemmas.List.Sums.{fold-append}
use Rattle.std.proofs.lemmas.List.Elements.{All-contains, Contains-append_left, Contains-append_right, Contains-append_cases}
use Rattle.sem_key.specs.KeyName.{KeyName, key_eq}
use Rattle.sem_key.specs.Capability.{Capability}
use Rattle.sem_key.specs.Region.{has_key}
use Rattle.sem_key.proofs.KeyTests.{key_eq-from, Contains-from_has_key, has_key-from_Contains}
use Rattle.sem_key.proofs.Members.{found, Contains-nil, Contains-cons_cases, Contains-head, Contains-map, Contains-from_map}
use Rattle.sem_msg.specs.declared.entry.Entry.{Entry}
use Rattle.sem_msg.specs.Setup.{Setup, IsSetup}
use Rattle.sem_msg.specs.Lookups.{owner_of, kernel_of}
use Rattle.sem_machine.specs.Sides.{no_side, cap}
use Rattle.sem_machine.specs.Machine.{World, side, start, start_side, after}
use Rattle.sem_machine.specs.Schedules.{IsSchedule, run, world_after}
use Rattle.sem_machine.specs.Journals.{grants, root_keys, made}
use Rattle.sem_machine.specs.Living.{IsLive}
use Rattle.sem_query.specs.declared.holder.Holder.{Holder}
use Rattle.sem_query.specs.declared.holder.Holder.TheVariants.{Unmarked, No}
use Rattle.sem_query.specs.Whereabouts.{held_with, held_as, unheld, is_coming, whereabouts, IsThere, Passes}
use Rattle.sem_query.specs.Whereabouts.IsThere.{is_held_marked, is_held_unmarked, is_on_its_way, is_nowhere}
use Rattle.sem_query.specs.Whereabouts.Passes.{born_on_its_way, born_held, stays_nowhere}
use Rattle.sem_query.specs.Changes.{grants_key}
use Rattle.sem_query.specs.Lives.{KeyLife, noted, life_granted, first_life, begun, Watched, watched_first, watched_next, life_of_root, life, told_holder}
use Rattle.sem_query.proofs.Passing.{granted-pair, passes}
use Rattle.sem_query.proofs.There.{some-of, there}
use Rattle.sem_query.proofs.Reading.{Stands, stands-told, stands-born, stands-next, before-born, told-before}
use Rattle.sem_query.proofs.Reading.Stands.{as_unmarked}
use Rattle.sem_query.proofs.Reading.IsBegun.{from_the_start}
use Rattle.sem_safety.proofs.CarryingWorlds.{used-made, among-grants}
use Rattle.sem_safety.proofs.FirstCaps.{IsFirst, first-bare, root-held}
use Rattle.sem_safety.proofs.GoingOn.{run-append}
use Rattle.sem_safety.proofs.NewGrants.{with_grant, without_grant}
use Rattle.sem_safety.proofs.OneLife.{all-new}
use Rattle.sem_machine.proofs.Pushing.{schedule-empty}
use Rattle.sem_revoke.proofs.Readying.{schedule-homes}

-- Going through a journal.
module _ (T : Setup) (k : KeyName) where
  -- the world and the number of entries are those of the journal
  watched-world : (J : List Entry) (x : Watched) → (fold (watched_next T k) x J).world ≡ run T x.world J
  watched-world [] x = refl
  watched-world (e ∷ es) x = watched-world es (watched_next T k x e)

  watched-entries : (J : List Entry) (x : Watched) → (fold (watched_next T k) x J).entries ≡ x.entries + length J
  watched-entries [] x = omega arith
  watched-entries (e ∷ es) x = let rest = watched-entries es (watched_next T k x e) in omega (arith, rest)

  -- what entry n adds, which leads from the world W to the world V
  abbrev pub life_next : ℕ → World → World → Entry → Option KeyLife → Option KeyLife
  life_next n W V e o = option_map (noted n (whereabouts T W k) (whereabouts T V k)) (begun k n e o)

  pub life-push : (before : List Entry) (e : Entry) →
      life T (before ++ e ∷ []) k ≡ life_next (length before) (world_after T before) (after T (world_after T before) e.event) e (life T before k)
  life-push before e =
      let x : Watched = fold (watched_next T k) (watched_first T k) before in
      let world : x.world ≡ world_after T before = watched-world before (watched_first T k) in
      let counted = watched-entries before (watched_first T k) in
      let entries : x.entries ≡ length before = omega (arith, counted) in
      ap (λ (y : Watched). y.life) (fold-append (watched_next T k) (watched_first T k) before (e ∷ []))
      ∙ (ap (λ n. life_next n x.world (after T x.world e.event) e x.life) entries
      ∙ ap (λ (W : World). life_next (length before) W (after T W e.event) e x.life) world)

-- a life stands, if there is one; where there is none, the key is nowhere
pub data StandsIf (n : ℕ) : Holder → Option KeyLife → Type 0 where
  has_no_life : StandsIf n No None
  has_life : (a : Holder) (l : KeyLife) → Stands n a l → StandsIf n a (Some l)

-- The start.

first-unmarked : (T : Setup) (is : List ℕ) (i : ℕ) (c : Capability) → Contains (get_or (map (start_side T) is) i no_side).caps c → c.mark ≡ None
first-unmarked T [] i c among = absurd (Contains-nil c among)
first-unmarked T (n ∷ ns) zero c among = (All-contains IsFirst (start_side T n).caps c (first-bare T n) among).unmarked
first-unmarked T (n ∷ ns) (suc i) c among = first-unmarked T ns i c among

pub start-unmarked : (T : Setup) (i : ℕ) (c : Capability) → Contains (side (start T) i).caps c → c.mark ≡ None
unfolding start
start-unmarked T i c among = first-unmarked T (range_with_len 0 T.kernels) i c among

module _ (T : Setup) (valid : IsSetup T) (k : KeyName) where
  pub nobody : IsSchedule T []
  nobody = schedule-empty T [] refl

  -- a root is held unmarked
  root-there : Contains (root_keys T) k → (sel : ℕ) × (whereabouts T (start T) k ≡ Unmarked sel)
  root-there root =
      let i : ℕ = kernel_of T k.vpe in
      let c = some-of (cap (side (start T) i) k) (root-held T valid k root) in
      let home : owner_of T k ≡ i = schedule-homes T valid [] nobody i k c.0 c.1 in
      let held : cap (side (start T) (owner_of T k)) k ≡ Some c.0 = ap (λ j. cap (side (start T) j) k) home ∙ c.1 in
      let unmarked : c.0.mark ≡ None = start-unmarked T i c.0 (found (λ (x : Capability). key_eq x.key k) (side (start T) i).caps c.0 c.1).0 in
      (c.0.selector, ap (λ o. option_map_or held_as o (unheld (is_coming k (start T)))) held ∙ ap (λ m. held_with m c.0.selector) unmarked)

  -- what is not live is nowhere
  pub dead-nowhere : (W : World) (h : Holder) → IsThere W k h → (IsLive W k → ⊥) → h ≡ No
  dead-nowhere W _ (is_held_marked i j c held marked) dead = absurd (dead (inl (i, subst (λ (o : Option Capability). IsSome o) (sym held) refl)))
  dead-nowhere W _ (is_held_unmarked i c held unmarked) dead = absurd (dead (inl (i, subst (λ (o : Option Capability). IsSome o) (sym held) refl)))
  dead-nowhere W _ (is_on_its_way coming) dead = absurd (dead coming.0)
  dead-nowhere W _ (is_nowhere gone) dead = refl

  pub first-made : Contains (made T []) k → Contains (root_keys T) k
  first-made among = elim (Contains-append_cases (root_keys T) [] k among) [ inl root ↦ root | inr none ↦ absurd (Contains-nil k none) ]

  first-stands : StandsIf 0 (whereabouts T (start T) k) (first_life T k)
  first-stands = elim (cases_Bool (has_key (root_keys T) k)) [
    | inl root ↦
        let at = root-there (Contains-from_has_key (root_keys T) k root) in
        let there' : StandsIf 0 (whereabouts T (start T) k) (Some (life_of_root k (whereabouts T (start T) k))) =
        subst (λ h. StandsIf 0 h (Some (life_of_root k h))) (sym at.1)
        (has_life (Unmarked at.0) (life_of_root k (Unmarked at.0)) (as_unmarked k at.0 None None [] from_the_start tt refl)) in
        subst (StandsIf 0 (whereabouts T (start T) k)) (sym (cond-true (has_key (root_keys T) k) (Some (life_of_root k (whereabouts T (start T) k))) None root))
        there'
    | inr no_root ↦
        let dead : IsLive (start T) k → ⊥ = λ live. true≢false (sym (has_key-from_Contains (root_keys T) k (first-made (used-made T [] nobody k (inl live))))
        ∙ no_root) in
        let nowhere : whereabouts T (start T) k ≡ No = dead-nowhere (start T) (whereabouts T (start T) k) (there T valid [] nobody k) dead in
        subst (λ h. StandsIf 0 h (first_life T k)) (sym nowhere)
        (subst (StandsIf 0 No) (sym (cond-false (has_key (root_keys T) k) (Some (life_of_root k (whereabouts T (start T) k))) None no_root)) has_no_life)
  ]

-- One entry more.

-- by whether it grants the key
abbrev next_by : KeyName → Bool → ℕ → Holder → Holder → Option KeyLife → Option KeyLife
next_by k g n a b o = option_map (noted n a b) (if g then Some (life_granted k n) else o)

stands-on : (k : KeyName) (g : Bool) (n : ℕ) (a b : Holder) (o : Option KeyLife) → StandsIf n a o → Passes g a b → StandsIf (n + 1) b (next_by k g n a b o)
stands-on k true n _ b o is born_on_its_way = has_life b (noted n No b (life_granted k n)) (stands-born n k b born_on_its_way)
stands-on k true n _ b o is (born_held sel) = has_life b (noted n No b (life_granted k n)) (stands-born n k b (born_held sel))
stands-on k false n _ _ _ has_no_life stays_nowhere = has_no_life
stands-on k false n _ b _ (has_life a l is) passing = has_life b (noted n a b l) (stands-next n a b l is passing)

-- what an option of a life tells
abbrev pub told_if : ℕ → Option KeyLife → Holder
told_if n o = option_map_or (told_holder n) o No

told-on : (k : KeyName) (g : Bool) (m n : ℕ) (a b : Holder) (o : Option KeyLife) → m ≤ n → StandsIf n a o → Passes g a b → (g ≡ true → o ≡ None) →
    told_if m (next_by k g n a b o) ≡ told_if m o
told-on k true m n _ b o before is born_on_its_way new = before-born m n k b before ∙ ap (told_if m) (sym (new refl))
told-on k true m n _ b o before is (born_held sel) new = before-born m n k b before ∙ ap (told_if m) (sym (new refl))
told-on k false m n _ _ _ before has_no_life stays_nowhere new = refl
told-on k false m n _ b _ before (has_life a l is) passing new = told-before m n a b l before is passing

-- What is made along a journal.
module _ (T : Setup) (k : KeyName) (before : List Entry) (e : Entry) where
  abbrev children : List (KeyName × KeyName) → List KeyName
  children gs = map (λ g. g.1) gs

  pub made-keeps : Contains (made T before) k → Contains (made T (before ++ e ∷ [])) k
  made-keeps was = by e.grant refl
    where
      by : (o : Option (KeyName × KeyName)) → e.grant ≡ o → Contains (made T (before ++ e ∷ [])) k
      by None none = subst (λ gs. Contains (root_keys T ++ children gs) k) (sym (without_grant before e none)) was
      by (Some g) some = subst (λ gs. Contains (root_keys T ++ children gs) k) (sym (with_grant before e g some))
          (elim (Contains-append_cases (root_keys T) (children (grants before)) k was) [
            | inl root ↦ Contains-append_left (root_keys T) (children (grants before ++ g ∷ [])) k root
            | inr child ↦
                let at = Contains-from_map (λ (h : KeyName × KeyName). h.1) (grants before) k child in
                Contains-append_right (root_keys T) (children (grants before ++ g ∷ [])) k
                (subst (Contains (children (grants before ++ g ∷ []))) at.2 (Contains-map (λ (h : KeyName × KeyName). h.1) (grants before ++ g ∷ []) at.0
                (Contains-append_left (grants before) (g ∷ []) at.0 at.1)))
          ])

  made-granted : grants_key k e ≡ true → Contains (made T (before ++ e ∷ [])) k
  made-granted is =
      let g = granted-pair k e.grant is in
      Contains-append_right (root_keys T) (children (grants (before ++ e ∷ []))) k (Contains-map (λ (h : KeyName × KeyName). h.1) (grants (before ++ e ∷ []))
      (g.0, k) (among-grants (before ++ e ∷ []) e (g.0, k) (Contains-append_right before (e ∷ []) e (Contains-head e [])) g.1))

  made-cases : Contains (made T (before ++ e ∷ [])) k → Contains (made T before) k ⊎ (grants_key k e ≡ true)
  made-cases is = by e.grant refl
    where
      by : (o : Option (KeyName × KeyName)) → e.grant ≡ o → Contains (made T before) k ⊎ (grants_key k e ≡ true)
      by None none = inl (subst (λ gs. Contains (root_keys T ++ children gs) k) (without_grant before e none) is)
      by (Some g) some =
          elim (Contains-append_cases (root_keys T) (children (grants before ++ g ∷ [])) k
          (subst (λ gs. Contains (root_keys T ++ children gs) k) (with_grant before e g some) is)) [
            | inl root ↦ inl (Contains-append_left (root_keys T) (children (grants before)) k root)
            | inr child ↦
                let at = Contains-from_map (λ (h : KeyName × KeyName). h.1) (grants before ++ g ∷ []) k child in
                elim (Contains-append_cases (grants before) (g ∷ []) at.0 at.1) [
                  | inl was ↦ inl (Contains-append_right (root_keys T) (children (grants before)) k
                      (subst (Contains (children (grants before))) at.2 (Contains-map (λ (h : KeyName × KeyName). h.1) (grants before) at.0 was)))
                  | inr now ↦ elim (Contains-cons_cases g [] at.0 now) [
                    | inl same ↦ inr (ap (λ o. option_map_or (λ (h : KeyName × KeyName). key_eq h.1 k) o false) some
                        ∙ key_eq-from g.1 k (ap (λ (h : KeyName × KeyName). h.1) same ∙ at.2))
                    | inr none ↦ absurd (Contains-nil at.0 none)
                  ]
                ]
          ]

-- Along a schedule.

-- what is so of the life of a key after some entries
pub record Tells (T : Setup) (k : KeyName) (before : List Entry) : Type 0 where
  pub now : StandsIf (length before) (whereabouts T (world_after T before) k) (life T before k)
  pub all_along : (m : ℕ) → m ≤ length before → told_if m (life T before k) ≡ whereabouts T (world_after T (take m before)) k
  pub was_made : IsSome (life T before k) → Contains (made T before) k
  pub has_life : Contains (made T before) k → IsSome (life T before k)
  pub of_key : (l : KeyLife) → life T before k ≡ Some l → l.key ≡ k

told-now : (n : ℕ) (a : Holder) (o : Option KeyLife) → StandsIf n a o → told_if n o ≡ a
told-now n _ _ has_no_life = refl
told-now n _ _ (has_life a l is) = stands-told n a l is

module _ (T : Setup) (valid : IsSetup T) (k : KeyName) where
  abbrev HasLife : Option KeyLife → Type 0
  HasLife o = IsSome o

  abbrev root_life : KeyLife
  root_life = life_of_root k (whereabouts T (start T) k)

  tells-first : Tells T k []
  tells-first = record {
    now = first-stands T valid k;
    all_along = λ m few. let none : m ≡ 0 = omega (arith, few) in
        subst (λ n. told_if n (first_life T k) ≡ whereabouts T (world_after T (take n [])) k) (sym none)
        (told-now 0 (whereabouts T (start T) k) (first_life T k) (first-stands T valid k));
    was_made = λ some. elim (cases_Bool (has_key (root_keys T) k)) [
      | inl root ↦ Contains-append_left (root_keys T) [] k (Contains-from_has_key (root_keys T) k root)
      | inr none ↦ absurd (no-some (subst HasLife (cond-false (has_key (root_keys T) k) (Some root_life) None none) some))
    ];
    has_life = λ there'. subst HasLife
        (sym (cond-true (has_key (root_keys T) k) (Some root_life) None (has_key-from_Contains (root_keys T) k (first-made T valid k there')))) refl;
    of_key = λ l is. elim (cases_Bool (has_key (root_keys T) k)) [
      | inl root ↦ ap (λ (x : KeyLife). x.key) (sym (same_Some root_life l (sym (cond-true (has_key (root_keys T) k) (Some root_life) None root) ∙ is)))
      | inr none ↦ let no : None ≡ Some l = sym (cond-false (has_key (root_keys T) k) (Some root_life) None none) ∙ is in absurd cc
    ];
  }
    where
      no-some : HasLife None → ⊥
      no-some some = absurd cc

  -- what is so of the next life, by whether the entry grants the key
  some-next : (g : Bool) (n : ℕ) (a b : Holder) (o : Option KeyLife) → IsSome (next_by k g n a b o) → IsSome o ⊎ (g ≡ true)
  some-next true n a b o some = inr refl
  some-next false n a b None some = absurd cc
  some-next false n a b (Some l) some = inl refl

  next-some : (g : Bool) (n : ℕ) (a b : Holder) (o : Option KeyLife) → IsSome o ⊎ (g ≡ true) → IsSome (next_by k g n a b o)
  next-some true n a b o is = refl
  next-some false n a b None (inl some) = absurd cc
  next-some false n a b None (inr never) = absurd cc
  next-some false n a b (Some l) is = refl

  next-key : (g : Bool) (n : ℕ) (a b : Holder) (o : Option KeyLife) → ((l : KeyLife) → o ≡ Some l → l.key ≡ k) → (l : KeyLife) → next_by k g n a b o ≡ Some l →
      l.key ≡ k
  next-key true n a b o was l is = ap (λ (x : KeyLife). x.key) (sym (same_Some (noted n a b (life_granted k n)) l is))
  next-key false n a b None was l is = absurd cc
  next-key false n a b (Some x) was l is = ap (λ (y : KeyLife). y.key) (sym (same_Some (noted n a b x) l is)) ∙ was x refl

  no-life : (o : Option KeyLife) → (IsSome o → ⊥) → o ≡ None
  no-life None none = refl
  no-life (Some l) none = absurd (none refl)

  module _ (J : List Entry) (runs : IsSchedule T J) (before later : List Entry) (e : Entry) (parts : J ≡ before ++ e ∷ later) (is : Tells T k before) where
    abbrev W : World
    W = world_after T before

    abbrev V : World
    V = world_after T (before ++ e ∷ [])

    abbrev n : ℕ
    n = length before

    abbrev a : Holder
    a = whereabouts T W k

    abbrev b : Holder
    b = whereabouts T V k

    abbrev g : Bool
    g = grants_key k e

    passing : Passes g a b
    passing = passes T valid J runs before later e parts k

    life-is : life T (before ++ e ∷ []) k ≡ next_by k g n a b (life T before k)
    life-is = life-push T k before e ∙ ap (λ (U : World). life_next T k n W U e (life T before k)) (sym (run-append T before (e ∷ []) (start T)))

    length-is : length (before ++ e ∷ []) ≡ n + 1
    length-is = let more = length-append before (e ∷ []) in omega (arith, more)

    -- what is granted had no life
    new : g ≡ true → life T before k ≡ None
    new granted = let p = granted-pair k e.grant granted in
        no-life (life T before k) (λ some. all-new T valid J runs before later e p.0 k parts p.1 (is.was_made some))

    now' : StandsIf (length (before ++ e ∷ [])) b (life T (before ++ e ∷ []) k)
    now' = subst (λ m. StandsIf m b (life T (before ++ e ∷ []) k)) (sym length-is)
        (subst (StandsIf (n + 1) b) (sym life-is) (stands-on k g n a b (life T before k) is.now passing))

    along : (m : ℕ) → m ≤ length (before ++ e ∷ []) → told_if m (life T (before ++ e ∷ []) k) ≡ whereabouts T (world_after T (take m (before ++ e ∷ []))) k
    along m few = elim (cases_eq m (n + 1)) [
      | inl last ↦
          let all : take m (before ++ e ∷ []) ≡ before ++ e ∷ [] = take_all m (before ++ e ∷ []) (let len = length-is in omega (arith, len, last)) in
          subst (λ K. told_if m (life T (before ++ e ∷ []) k) ≡ whereabouts T (world_after T K) k) (sym all)
          (subst (λ x. told_if x (life T (before ++ e ∷ []) k) ≡ b) (length-is
          ∙ sym last) (told-now (length (before ++ e ∷ [])) b (life T (before ++ e ∷ []) k) now'))
      | inr other ↦
          let len = length-is in
          let less : m ≤ n = omega (arith, few, other, len) in
          ap (told_if m) life-is
          ∙ (told-on k g m n a b (life T before k) less is.now passing new
          ∙ (is.all_along m less ∙ ap (λ K. whereabouts T (world_after T K) k) (sym (take-append-le m before (e ∷ []) less))))
    ]

    pub tells-next : Tells T k (before ++ e ∷ [])
    tells-next = record {
      now = now';
      all_along = along;
      was_made = λ some. elim (some-next g n a b (life T before k) (subst HasLife life-is some)) [
        | inl was ↦ made-keeps T k before e (is.was_made was)
        | inr granted ↦ made-granted T k before e granted
      ];
      has_life = λ there'. subst HasLife (sym life-is) (next-some g n a b (life T before k) (elim (made-cases T k before e there') [
        | inl was ↦ inl (is.has_life was)
        | inr granted ↦ inr granted
      ]));
      of_key = λ l some. next-key g n a b (life T before k) is.of_key l (sym life-is ∙ some);
    }

  pub tells : (J : List Entry) → IsSchedule T J → Tells T k J
  tells J runs = from [] J refl tells-first
    where
      from : (before later : List Entry) → J ≡ before ++ later → Tells T k before → Tells T k J
      from before [] parts is = subst (Tells T k) (sym (parts ∙ append-nil before)) is
      from before (e ∷ es) parts is = from (before ++ e ∷ []) es (parts ∙ sym (append_assoc before (e ∷ []) es)) (tells-next J runs before es e parts is)
