-- Measures of commands: each number of a client is given under once, so its selectors are given to once; and files are opened a
-- thousand times at most.
use Rattle.std.proofs.Common.{◌≡◌, ◌⊎◌, ℕ, suc, ◌+◌, ◌-◌, ◌*◌, ◌/◌, ◌<◌, ◌≤◌, ◌++◌, Bool, true, false, List, [], ◌∷◌, map, filter, length, length-append}
use Rattle.std.proofs.Common.{nat_lt, refl, sym, ap, ◌∙◌, subst, inl, inr, arith, append_assoc, append-nil, eq-eqb}
use Rattle.std.specs.Prelude.{◌==◌, ◌&&◌, ◌||◌, if◌then◌else◌}
use Rattle.std.specs.List.{AllPairs, Contains, flat_map, sum_by}
use Rattle.std.proofs.lemmas.Bool.{cases_eq, cond-true, cond-false, cond_both, eqb-true, ne_eqb}
use Rattle.std.proofs.lemmas.List.Elements.{filter-append}
use Rattle.std.proofs.lemmas.List.Folds.{list_any-append}
use Rattle.std.proofs.lemmas.List.Sums.{sum_by-cons}
use Rattle.std.proofs.lemmas.List.FromFn.{length-range_with_len}
use Rattle.sem_key.proofs.Members.{Contains-nil, Contains-cons_cases, Contains-from_map}
use Rattle.sem_msg.specs.declared.call.Call.{Call}
use Rattle.sem_msg.specs.declared.call.Call.TheVariants.{Delegate, AskOffer, Revoke, Bind, Read as ReadCall, Write as WriteCall}
use Rattle.sem_files.specs.declared.files.FileAct.{FileAct}
use Rattle.sem_files.specs.declared.files.FileAct.TheVariants.{OpenFile, Read, Write, Share, Close}
use Rattle.sem_files.specs.declared.files.Command.{Command}
use Rattle.sem_files.specs.Files.{Files, EXTENT, is_client, extents_of, file_of, is_opening, open_count, gives, is_used, IsAct, IsCommand}
use Rattle.sem_files.specs.Compiled.{SERVER, SESSION, ACCESS, extent_number, opened_at, given_at, part_begin, part_end, part_accessed, below, calls_of_act}
use Rattle.sem_files.specs.Compiled.{calls_of_command, AreFiles}
use Rattle.sem_fs.specs.Service.{GIVEN, gives_where, is_ask, any}
use Rattle.sem_fs.proofs.Rising.{Less, pairs-head, pairs-tail, in-range, range-in, range-rises, few-extents, declared-client}
use Rattle.sem_fs.proofs.Tallies.{tally, tally-append, tally-cons, tally-none, tally-most, sum-none}

-- What commands gave under numbers.

used-more : (before : List Command) (c : Command) (w g : ℕ) → is_used (before ++ c ∷ []) w g ≡ (is_used before w g || (gives w g c.act || false))
used-more before c w g = list_any-append (λ (x : Command). gives w g x.act) before (c ∷ [])

abbrev one_if : Bool → ℕ
one_if b = if b then 1 else 0

flag : Bool → ℕ → ℕ
flag b n = if b then n else 0

-- no other act gives
accesses-give : (access : ℕ → ℕ → Call) (w : ℕ) (such : ℕ → Bool) → ((off len : ℕ) → gives_where w such (access off len) ≡ false) →
    (h off len : ℕ) (xs : List ℕ)
    → tally (gives_where w such) (flat_map (part_accessed access h off len) xs) ≡ 0
accesses-give access w such none h off len [] = refl
accesses-give access w such none h off len (x ∷ xs) =
    let begins : ℕ = part_begin off x in
    let ends : ℕ = part_end off len x in
    let reads : Call = access (begins - EXTENT * x) (ends - begins) in
    let both = tally-append (gives_where w such) (part_accessed access h off len x) (flat_map (part_accessed access h off len) xs) in
    let rest = accesses-give access w such none h off len xs in
    let here : tally (gives_where w such) (part_accessed access h off len x) ≡ 0 =
    cond_both (nat_lt begins ends) (Bind ACCESS (opened_at h x) ∷ reads ∷ []) [] (λ cs. tally (gives_where w such) cs ≡ 0)
    (λ _. one reads (none (begins - EXTENT * x) (ends - begins))) (λ _. refl) in
    omega (arith, both, rest, here)
  where
    one : (c : Call) → gives_where w such c ≡ false → tally (gives_where w such) (Bind ACCESS (opened_at h x) ∷ c ∷ []) ≡ 0
    one c none' = ap length (cond-false (gives_where w such c) (c ∷ []) [] none')

asks-give : (w : ℕ) (such : ℕ → Bool) (h f : ℕ) (xs : List ℕ) → tally (gives_where w such) (map (λ i. AskOffer (opened_at h i) SESSION (extent_number f i)) xs)
    ≡ 0
asks-give w such h f [] = refl
asks-give w such h f (x ∷ xs) = asks-give w such h f xs

revokes-give : (w : ℕ) (such : ℕ → Bool) (h : ℕ) (xs : List ℕ) → tally (gives_where w such) (map (λ i. Revoke (opened_at h i)) xs) ≡ 0
revokes-give w such h [] = refl
revokes-give w such h (x ∷ xs) = revokes-give w such h xs

-- the calls of a share
abbrev shares : ℕ → ℕ → ℕ → List ℕ → List Call
shares h to g xs = map (λ i. Delegate (opened_at h i) to (given_at g i)) xs

-- to another VPE
shares-away : (w : ℕ) (such : ℕ → Bool) (h to g : ℕ) (xs : List ℕ) → (to ≡ w → ⊥) → tally (gives_where w such) (shares h to g xs) ≡ 0
shares-away w such h to g xs other = tally-none (gives_where w such) (shares h to g xs) (λ c among.
    let o = Contains-from_map (λ i. Delegate (opened_at h i) to (given_at g i)) xs c among in
    subst (λ x. gives_where w such x ≡ false) o.2 (ap (λ b. b && such (given_at g o.0)) (ne_eqb to w other)))

-- to other selectors
shares-apart : (w dst h to g : ℕ) (xs : List ℕ) → ((i : ℕ) → Contains xs i → given_at g i ≡ dst → ⊥) →
    tally (gives_where w (λ sel. sel == dst)) (shares h to g xs) ≡ 0
shares-apart w dst h to g xs apart = tally-none (gives_where w (λ sel. sel == dst)) (shares h to g xs) (λ c among.
    let o = Contains-from_map (λ i. Delegate (opened_at h i) to (given_at g i)) xs c among in
    subst (λ x. gives_where w (λ sel. sel == dst) x ≡ false) o.2 (both (to == w) (given_at g o.0 == dst) (ne_eqb (given_at g o.0) dst (apart o.0 o.1))))
  where
    both : (a b : Bool) → b ≡ false → (a && b) ≡ false
    both true b is = is
    both false b is = refl

-- to a selector once at most
shares-once : (w dst h to g : ℕ) (xs : List ℕ) → AllPairs Less xs → tally (gives_where w (λ sel. sel == dst)) (shares h to g xs) ≤ 1
shares-once w dst h to g [] rise = omega arith
shares-once w dst h to g (x ∷ xs) rise =
    let c : Call = Delegate (opened_at h x) to (given_at g x) in
    let a = tally-cons (gives_where w (λ sel. sel == dst)) c (shares h to g xs) in
    elim (cases_eq (given_at g x) dst) [
      | inl same ↦
          let none = shares-apart w dst h to g xs (λ i among same'. later x i (pairs-head Less x xs rise i among) (same ∙ sym same')) in
          let one = at-most (gives_where w (λ sel. sel == dst) c) in
          omega (arith, a, none, one)
      | inr other ↦
          let rest = shares-once w dst h to g xs (pairs-tail Less x xs rise) in
          let none = cond-false {A = ℕ} (gives_where w (λ sel. sel == dst) c) 1 0 (both (to == w) (given_at g x == dst) (ne_eqb (given_at g x) dst other)) in
          omega (arith, a, rest, none)
    ]
  where
    at-most : (b : Bool) → (if b then 1 else 0) ≤ 1
    at-most true = omega arith
    at-most false = omega arith

    both : (a b : Bool) → b ≡ false → (a && b) ≡ false
    both true b is = is
    both false b is = refl

    later : (x i : ℕ) → x < i → given_at g x ≡ given_at g i → ⊥
    later x i less same = omega (arith, less, same)

shares-few : (w : ℕ) (such : ℕ → Bool) (h to g : ℕ) (n : ℕ) → tally (gives_where w such) (shares h to g (below n)) ≤ n
shares-few w such h to g n =
    let most = tally-most (gives_where w such) (shares h to g (below n)) in
    let long = long-so (below n) in
    let len = length-range_with_len 0 n in
    omega (arith, most, long, len)
  where
    long-so : (xs : List ℕ) → length (shares h to g xs) ≡ length xs
    long-so [] = refl
    long-so (x ∷ xs) = let rest = long-so xs in omega (arith, rest)

module _ (F : Files) (AF : AreFiles F) where
  -- What an act gives: only a share to that client.
  act-gives : (w : ℕ) (such : ℕ → Bool) (n : ℕ) (act : FileAct) → (tally (gives_where w such) (calls_of_act n act) ≡ 0)
      ⊎ ((h : ℕ) × (g : ℕ) × (act ≡ Share h w g))
  act-gives w such n (OpenFile handle file) = inl (asks-give w such handle file (below n))
  act-gives w such n (Read handle off len) = inl (accesses-give (ReadCall ACCESS) w such (λ a b. refl) handle off len (below n))
  act-gives w such n (Write handle off len) = inl (accesses-give (WriteCall ACCESS) w such (λ a b. refl) handle off len (below n))
  act-gives w such n (Close handle) = inl (revokes-give w such handle (below n))
  act-gives w such n (Share handle to other) = elim (cases_eq to w) [
    | inl same ↦ inr (handle, other, ap (λ u. Share handle u other) same)
    | inr away ↦ inl (shares-away w such handle to other (below n) away)
  ]

  -- a share under a number that was not used
  unused : (before : List Command) (c : Command) (h w g : ℕ) → IsCommand F before c → c.act ≡ Share h w g → (is_client F w ≡ true) × (g ≤ 15)
      × (is_used before w g ≡ false) × (is_used (before ++ c ∷ []) w g ≡ true)
  unused before c h w g is act =
      let x : IsAct F before c.client (Share h w g) = subst (IsAct F before c.client) act is.act in
      (x.1, x.3, x.4, used-more before c w g ∙ (ap (λ b. b || (gives w g c.act || false)) x.4 ∙ (ap (λ a. gives w g a || false) act ∙ now)))
    where
      now : (gives w g (Share h w g) || false) ≡ true
      now = ap (λ b. (b && (g == g)) || false) (eq-eqb w w refl) ∙ ap (λ b. b || false) (eq-eqb g g refl)

  used-stays : (before : List Command) (c : Command) (w g : ℕ) → is_used before w g ≡ true → is_used (before ++ c ∷ []) w g ≡ true
  used-stays before c w g is = used-more before c w g ∙ ap (λ b. b || (gives w g c.act || false)) is

  -- The server is given nothing.
  pub none-given : (before : List Command) (c : Command) → IsCommand F before c → tally (gives_where SERVER any) (calls_of_command F before c) + 0 ≤ 0
  none-given before c is = elim (act-gives SERVER any (extents_of F (file_of before c.client c.act)) c.act) [
    | inl none ↦ omega (arith, none)
    | inr (h, g, act) ↦ (let low = (declared-client F AF SERVER (unused before c h SERVER g is act).0).0 in absurd (omega (arith, low)))
  ]

  -- A selector is given to once.
  module _ (w dst : ℕ) (far : GIVEN ≤ dst) where
    number : ℕ
    number = (dst - 128) / 4

    pub once : List Command → ℕ
    once before = flag (is_used before w number) 1

    pub once-most : (before : List Command) → once before ≤ 1
    unfolding once flag
    once-most before = at-most (is_used before w number)
      where
        at-most : (b : Bool) → (if b then 1 else 0) ≤ 1
        at-most true = omega arith
        at-most false = omega arith

    grown : (before : List Command) (c : Command) → once before ≤ once (before ++ c ∷ [])
    unfolding once flag
    grown before c = from (is_used before w number) refl
      where
        from : (b : Bool) → is_used before w number ≡ b → (if b then 1 else 0) ≤ (if is_used (before ++ c ∷ []) w number then 1 else 0)
        from true used = (let now = cond-true {A = ℕ} (is_used (before ++ c ∷ []) w number) 1 0 (used-stays before c w number used) in omega (arith, now))
        from false not_ = omega arith

    placed : (g i : ℕ) → i < 4 → given_at g i ≡ dst → g ≡ number
    unfolding number
    placed g i few same = omega (arith, few, same)

    pub once-given : (before : List Command) (c : Command) → IsCommand F before c
        → tally (gives_where w (λ sel. sel == dst)) (calls_of_command F before c) + once before ≤ once (before ++ c ∷ [])
    unfolding once flag
    once-given before c is = elim (act-gives w (λ sel. sel == dst) n c.act) [
      | inl none ↦ (let more = grown before c in omega (arith, none, more))
      | inr (h, g, act) ↦ elim (cases_eq g number) [
        | inr other ↦
            let same = ap (λ a. tally (gives_where w (λ sel. sel == dst)) (calls_of_act n a)) act in
            let none = shares-apart w dst h w g (below n) (λ i among at. other (placed g i (few i among) at)) in
            let more = grown before c in
            omega (arith, same, none, more)
        | inl this ↦
            let x = unused before c h w g is act in
            let same = ap (λ a. tally (gives_where w (λ sel. sel == dst)) (calls_of_act n a)) act in
            let most = shares-once w dst h w g (below n) (range-rises 0 n) in
            let was = cond-false {A = ℕ} (is_used before w number) 1 0 (ap (is_used before w) (sym this) ∙ x.2) in
            let now = cond-true {A = ℕ} (is_used (before ++ c ∷ []) w number) 1 0 (ap (is_used (before ++ c ∷ []) w) (sym this) ∙ x.3) in
            omega (arith, same, most, was, now)
      ]
    ]
      where
        n : ℕ
        n = extents_of F (file_of before c.client c.act)

        few : (i : ℕ) → Contains (below (extents_of F (file_of before c.client c.act))) i → i < 4
        few i among = let near = (in-range 0 n i among).1 in let most = few-extents F AF (file_of before c.client c.act) in omega (arith, near, most)

  -- A client is given to at most four times under each of sixteen numbers.
  module _ (w : ℕ) where
    abbrev four : List Command → ℕ → ℕ
    four before g = if is_used before w g then 4 else 0

    pub given : List Command → ℕ
    given before = sum_by (four before) (below 16)

    pub given-first : given [] ≡ 0
    unfolding given
    given-first = sum-none (four []) (below 16) (λ g among. refl)

    pub given-most : (before : List Command) → given before ≤ 64
    unfolding given
    given-most before = (let most = bounded (below 16) in let len = length-range_with_len 0 16 in omega (arith, most, len))
      where
        bounded : (xs : List ℕ) → sum_by (four before) xs ≤ 4 * length xs
        bounded [] = omega arith
        bounded (x ∷ xs) =
            let a = sum_by-cons (four before) x xs in
            let rest = bounded xs in
            cond_both (is_used before w x) 4 0 (λ m. sum_by (four before) (x ∷ xs) ≡ m + sum_by (four before) xs →
            sum_by (four before) (x ∷ xs) ≤ 4 * suc (length xs))
            (λ _ is. omega (arith, is, rest)) (λ _ is. omega (arith, is, rest)) a

    four-grows : (before : List Command) (c : Command) (g : ℕ) → four before g ≤ four (before ++ c ∷ []) g
    four-grows before c g = from (is_used before w g) refl
      where
        from : (b : Bool) → is_used before w g ≡ b → (if b then 4 else 0) ≤ (if is_used (before ++ c ∷ []) w g then 4 else 0)
        from true used = (let now = cond-true {A = ℕ} (is_used (before ++ c ∷ []) w g) 4 0 (used-stays before c w g used) in omega (arith, now))
        from false not_ = omega arith

    sums-grow : (before : List Command) (c : Command) (xs : List ℕ) → sum_by (four before) xs ≤ sum_by (four (before ++ c ∷ [])) xs
    sums-grow before c [] = omega arith
    sums-grow before c (x ∷ xs) =
        let a = sum_by-cons (four before) x xs in
        let b = sum_by-cons (four (before ++ c ∷ [])) x xs in
        let here = four-grows before c x in
        let rest = sums-grow before c xs in
        omega (arith, a, b, here, rest)

    sums-jump : (before : List Command) (c : Command) (g : ℕ) (xs : List ℕ) → Contains xs g → is_used before w g ≡ false → is_used (before ++ c ∷ []) w g ≡ true
        → sum_by (four before) xs + 4 ≤ sum_by (four (before ++ c ∷ [])) xs
    sums-jump before c g [] among was now = absurd (Contains-nil g among)
    sums-jump before c g (x ∷ xs) among was now =
        let a = sum_by-cons (four before) x xs in
        let b = sum_by-cons (four (before ++ c ∷ [])) x xs in
        elim (Contains-cons_cases x xs g among) [
          | inl same ↦
              let old = ap (four before) same ∙ cond-false {A = ℕ} (is_used before w g) 4 0 was in
              let new = ap (four (before ++ c ∷ [])) same ∙ cond-true {A = ℕ} (is_used (before ++ c ∷ []) w g) 4 0 now in
              let rest = sums-grow before c xs in
              omega (arith, a, b, old, new, rest)
          | inr rest ↦
              let more = sums-jump before c g xs rest was now in
              let here = four-grows before c x in
              omega (arith, a, b, more, here)
        ]

    pub given-grows : (before : List Command) (c : Command) → IsCommand F before c
        → tally (gives_where w any) (calls_of_command F before c) + given before ≤ given (before ++ c ∷ [])
    unfolding given
    given-grows before c is = elim (act-gives w any n c.act) [
      | inl none ↦ (let more = sums-grow before c (below 16) in omega (arith, none, more))
      | inr (h, g, act) ↦
          let x = unused before c h w g is act in
          let same = ap (λ a. tally (gives_where w any) (calls_of_act n a)) act in
          let few = shares-few w any h w g n in
          let most = few-extents F AF (file_of before c.client c.act) in
          let more = sums-jump before c g (below 16) (range-in 0 16 g (omega arith) (near g x.1)) x.2 x.3 in
          omega (arith, same, few, most, more)
    ]
      where
        n : ℕ
        n = extents_of F (file_of before c.client c.act)

        near : (g : ℕ) → g ≤ 15 → g < 0 + 16
        near g low = omega (arith, low)

  -- A client opens files a thousand times at most.
  module _ (w : ℕ) where
    pub opened : List Command → ℕ
    opened before = 4 * open_count before w

    pub opened-is : (before : List Command) → opened before ≡ 4 * open_count before w
    unfolding opened
    opened-is before = refl

    count-more : (before : List Command) (c : Command) →
        open_count (before ++ c ∷ []) w ≡ open_count before w + (if (c.client == w) && is_opening c.act then 1 else 0)
    count-more before c =
        ap length (filter-append (λ (x : Command). (x.client == w) && is_opening x.act) before (c ∷ []))
        ∙ (length-append (filter (λ (x : Command). (x.client == w) && is_opening x.act) before)
        (filter (λ (x : Command). (x.client == w) && is_opening x.act) (c ∷ []))
        ∙ ap (λ m. open_count before w + m) (one ((c.client == w) && is_opening c.act)))
      where
        one : (b : Bool) → length (if b then c ∷ [] else []) ≡ (if b then 1 else 0)
        one true = refl
        one false = refl

    -- what an act asks for
    asks-few : (h f : ℕ) (n : ℕ) → tally is_ask (map (λ i. AskOffer (opened_at h i) SESSION (extent_number f i)) (below n)) ≤ n
    asks-few h f n =
        let most = tally-most is_ask (map (λ i. AskOffer (opened_at h i) SESSION (extent_number f i)) (below n)) in
        let long = long-so (below n) in
        let len = length-range_with_len 0 n in
        omega (arith, most, long, len)
      where
        long-so : (xs : List ℕ) → length (map (λ i. AskOffer (opened_at h i) SESSION (extent_number f i)) xs) ≡ length xs
        long-so [] = refl
        long-so (x ∷ xs) = let rest = long-so xs in omega (arith, rest)

    accesses-ask : (access : ℕ → ℕ → Call) → ((off len : ℕ) → is_ask (access off len) ≡ false) → (h off len : ℕ) (xs : List ℕ)
        → tally is_ask (flat_map (part_accessed access h off len) xs) ≡ 0
    accesses-ask access none h off len [] = refl
    accesses-ask access none h off len (x ∷ xs) =
        let begins : ℕ = part_begin off x in
        let ends : ℕ = part_end off len x in
        let reads : Call = access (begins - EXTENT * x) (ends - begins) in
        let both = tally-append is_ask (part_accessed access h off len x) (flat_map (part_accessed access h off len) xs) in
        let rest = accesses-ask access none h off len xs in
        let here : tally is_ask (part_accessed access h off len x) ≡ 0 =
        cond_both (nat_lt begins ends) (Bind ACCESS (opened_at h x) ∷ reads ∷ []) [] (λ cs. tally is_ask cs ≡ 0)
        (λ _. one reads (none (begins - EXTENT * x) (ends - begins))) (λ _. refl) in
        omega (arith, both, rest, here)
      where
        one : (c : Call) → is_ask c ≡ false → tally is_ask (Bind ACCESS (opened_at h x) ∷ c ∷ []) ≡ 0
        one c none' = ap length (cond-false (is_ask c) (c ∷ []) [] none')

    shares-ask : (h to g : ℕ) (xs : List ℕ) → tally is_ask (shares h to g xs) ≡ 0
    shares-ask h to g [] = refl
    shares-ask h to g (x ∷ xs) = shares-ask h to g xs

    revokes-ask : (h : ℕ) (xs : List ℕ) → tally is_ask (map (λ i. Revoke (opened_at h i)) xs) ≡ 0
    revokes-ask h [] = refl
    revokes-ask h (x ∷ xs) = revokes-ask h xs

    act-asks : (n : ℕ) → n ≤ 4 → (act : FileAct) → tally is_ask (calls_of_act n act) ≤ 4 * (if is_opening act then 1 else 0)
    act-asks n few (OpenFile handle file) = let most = asks-few handle file n in omega (arith, most, few)
    act-asks n few (Read handle off len) = let none = accesses-ask (ReadCall ACCESS) (λ a b. refl) handle off len (below n) in omega (arith, none)
    act-asks n few (Write handle off len) = let none = accesses-ask (WriteCall ACCESS) (λ a b. refl) handle off len (below n) in omega (arith, none)
    act-asks n few (Share handle to other) = let none = shares-ask handle to other (below n) in omega (arith, none)
    act-asks n few (Close handle) = let none = revokes-ask handle (below n) in omega (arith, none)

    pub opened-grows : (before : List Command) (c : Command) → IsCommand F before c
        → tally is_ask (if c.client == w then calls_of_command F before c else []) + opened before ≤ opened (before ++ c ∷ [])
    unfolding opened
    opened-grows before c is =
        let more = count-more before c in
        let most = act-asks (extents_of F (file_of before c.client c.act)) (few-extents F AF (file_of before c.client c.act)) c.act in
        from (c.client == w) (open_count before w) (open_count (before ++ c ∷ []) w) (is_opening c.act) (calls_of_command F before c) more most
      where
        from : (b : Bool) (k k' : ℕ) (o : Bool) (cs : List Call) → k' ≡ k + (if b && o then 1 else 0) → tally is_ask cs ≤ 4 * (if o then 1 else 0)
            → tally is_ask (if b then cs else []) + 4 * k ≤ 4 * k'
        from true k k' true cs more most = omega (arith, more, most)
        from true k k' false cs more most = omega (arith, more, most)
        from false k k' o cs more most = omega (arith, more)

    pub opened-most : (before later : List Command) → F.commands ≡ before ++ later → open_count before w ≤ 1000 → open_count F.commands w ≤ 1000
    opened-most before [] parts few = (let same = ap (λ cs. open_count cs w) (parts ∙ append-nil before) in omega (arith, same, few))
    opened-most before (c ∷ cs) parts few =
        opened-most (before ++ c ∷ []) cs (parts ∙ sym (append_assoc before (c ∷ []) cs))
        (from (c.client == w) refl c.act refl)
      where
        is : IsCommand F before c
        is = AF.commands before cs c parts

        same : one_if ((c.client == w) && is_opening c.act) ≡ 0 → open_count (before ++ c ∷ []) w ≤ 1000
        same none = let more = count-more before c in omega (arith, more, none, few)

        from : (b : Bool) → (c.client == w) ≡ b → (act : FileAct) → c.act ≡ act → open_count (before ++ c ∷ []) w ≤ 1000
        from true mine (OpenFile handle file) act =
            let more = count-more before c in
            let now = ap (λ (x : Bool). one_if (x && is_opening c.act)) mine ∙ ap (λ a. one_if (is_opening a)) act in
            let x : IsAct F before w (OpenFile handle file) = subst (λ v. IsAct F before v (OpenFile handle file)) (eqb-true c.client w mine)
            (subst (IsAct F before c.client) act is.act) in
            let less = x.2 in
            omega (arith, more, now, less)
        from true mine (Read handle off len) act = same (ap (λ (x : Bool). one_if (x && is_opening c.act)) mine ∙ ap (λ a. one_if (is_opening a)) act)
        from true mine (Write handle off len) act = same (ap (λ (x : Bool). one_if (x && is_opening c.act)) mine ∙ ap (λ a. one_if (is_opening a)) act)
        from true mine (Share handle to other) act = same (ap (λ (x : Bool). one_if (x && is_opening c.act)) mine ∙ ap (λ a. one_if (is_opening a)) act)
        from true mine (Close handle) act = same (ap (λ (x : Bool). one_if (x && is_opening c.act)) mine ∙ ap (λ a. one_if (is_opening a)) act)
        from false other act is' = same (ap (λ (x : Bool). one_if (x && is_opening c.act)) other)
