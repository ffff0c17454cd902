-- How many keys a schedule makes and cuts, and how many entries it has, fit into the words of a report.
use Rattle.std.proofs.Common.{◌≡◌, ℕ, ◌+◌, ◌*◌, ◌<◌, ◌≤◌, ◌++◌, List, [], ◌∷◌, length, map, Option, Some, None, refl, arith, length-append}
use Rattle.std.specs.List.{All, filter, filter_map, flat_map}
use Rattle.std.specs.Option.{option_map_or}
use Rattle.std.proofs.lemmas.List.{length-map}
use Rattle.std.proofs.lemmas.List.Concat.{length-flat_map}
use Rattle.std.proofs.lemmas.List.Elements.{All-append, All-cons, All-contains, All-filter, All-head, All-nil, All-tail}
use Rattle.std.proofs.lemmas.List.Sums.{sum_by-le}
use Rattle.sem_key.specs.declared.key.Kind.{Kind}
use Rattle.sem_key.specs.declared.key.Kind.TheVariants.{Mem as MemKind, Recv as RecvKind, Send as SendKind, Serv as ServKind, Sess as SessKind}
use Rattle.sem_key.specs.KeyName.{KeyName, kind_number, packed, key_eq, key_lt}
use Rattle.sem_key.specs.KeyList.{with_key}
use Rattle.sem_key.specs.Lists.{in_turn}
use Rattle.sem_msg.proofs.Declared.{most_vpes-le}
use Rattle.sem_msg.specs.declared.call.Call.TheVariants.{Derive, Gate, Obtain, Delegate, OpenSession, AskOffer, Revoke, Bind, Read, Write, Send as SendCall}
use Rattle.sem_msg.specs.declared.call.Call.TheVariants.{Credit, Exit, Clear}
use Rattle.sem_msg.specs.declared.entry.Detail.{Detail}
use Rattle.sem_msg.specs.declared.entry.Detail.TheVariants.{Called, Carried, Asked, Nothing}
use Rattle.sem_msg.specs.declared.entry.Entry.{Entry}
use Rattle.sem_msg.specs.declared.setup.Root.{Root}
use Rattle.sem_msg.specs.declared.setup.VpeDecl.{VpeDecl}
use Rattle.sem_msg.specs.Setup.{Setup, IsSetup, IsVpeDecl, IsDeclared, root_key, kill_count}
use Rattle.sem_msg.specs.Calls.{IsWord}
use Rattle.sem_trace.specs.Ranges.{IsKeyInText}
use Rattle.sem_journal.specs.EntryRanges.{GrantFits, CutFits, EntryFits}
use Rattle.sem_machine.specs.Schedules.{IsSchedule}
use Rattle.sem_machine.specs.Journals.{grants, root_keys_from, root_keys, made, has_ended, children_in, cut_off, cut_by, cut_from, cut}
use Rattle.sem_bound.proofs.Spent.{limited}
use Rattle.sem_sound.proofs.Objects.{few-roots}
use Rattle.sem_sound.proofs.Rising.{rising-few, key_set-rises}
use Rattle.sem_fits.proofs.Entries.{entries-fit}

module _ (T : Setup) (valid : IsSetup T) where
  few-vpes : length T.vpes ≤ 128
  few-vpes = rising-few (λ (d : VpeDecl). d.vpe) 128 T.vpes valid.vpes_rise
      (λ d among. let declared : IsVpeDecl T d = All-contains
      (IsVpeDecl T) T.vpes d valid.vpes among in let few = declared.vpe in let most = most_vpes-le T.version in omega (arith, few, most))

  -- a declared VPE has a number of the version
  declared-small : (v : ℕ) → IsDeclared T v → v < 128
  declared-small v (k, d, within, same, is) =
      let declared : IsVpeDecl T d = All-contains (IsVpeDecl T) T.vpes d valid.vpes (k, within, same) in
      let few = declared.vpe in
      let most = most_vpes-le T.version in
      omega (arith, few, most, is)

  -- the kills are no more than VPEs
  few-kills : kill_count T ≤ 128
  few-kills = rising-few (λ (k : ℕ × ℕ). k.0) 128 T.kills valid.kills_rise
      (λ k among. declared-small k.0 (All-contains (λ (q : ℕ × ℕ). IsDeclared T q.0 × IsWord q.1) T.kills k valid.kills among).0)

  -- the bound on entries, as a number
  pub few-entries : (J : List Entry) → IsSchedule T J → length J ≤ 420128
  few-entries J runs = let most = limited T valid J runs in let calls = valid.few_calls in let kills = few-kills in omega (arith, most, calls, kills)

  -- Roots.

  -- a VPE has as many root keys as roots
  root-keys-length : (d : VpeDecl) (n : ℕ) (rs : List Root) → length (root_keys_from d n rs) ≡ length rs
  unfolding root_keys_from
  root-keys-length d n [] = refl
  root-keys-length d n (r ∷ rs) = let rest = root-keys-length d (n + 1) rs in omega (arith, rest)

  -- the root keys of a VPE are keys of a text
  root-keys-fit : (d : VpeDecl) → IsVpeDecl T d → (n : ℕ) (rs : List Root) → n + length rs ≤ 256 → All (IsKeyInText T.version) (root_keys_from d n rs)
  unfolding root_keys_from
  root-keys-fit d declared n [] few = All-nil (IsKeyInText T.version)
  root-keys-fit d declared n (r ∷ rs) few = All-cons (IsKeyInText T.version) (root_key d n r) (root_keys_from d (n + 1) rs)
      (declared.pe, declared.vpe, omega (arith, few)) (root-keys-fit d declared (n + 1) rs (omega (arith, few)))

  -- all root keys are few
  few-root_keys : length (root_keys T) ≤ 32768
  few-root_keys =
      let sums = length-flat_map (λ (d : VpeDecl). root_keys_from d 0 d.roots) T.vpes in
      let each = sum_by-le (λ (d : VpeDecl). length (root_keys_from d 0 d.roots)) 256 T.vpes (one T.vpes valid.vpes) in
      let vpes = few-vpes in
      omega (arith, sums, each, vpes)
    where
      one : (ds : List VpeDecl) → All (IsVpeDecl T) ds → All (λ (d : VpeDecl). length (root_keys_from d 0 d.roots) ≤ 256) ds
      one [] all = All-nil (λ (d : VpeDecl). length (root_keys_from d 0 d.roots) ≤ 256)
      one (d ∷ ds) all =
          let declared : IsVpeDecl T d = All-head (IsVpeDecl T) d ds all in
          let few = few-roots d.roots declared.roots declared.selectors_differ in
          let same = root-keys-length d 0 d.roots in
          All-cons (λ (x : VpeDecl). length (root_keys_from x 0 x.roots) ≤ 256) d ds (omega (arith, few, same)) (one ds (All-tail (IsVpeDecl T) d ds all))

  -- and keys of a text
  root_keys-fit : All (IsKeyInText T.version) (root_keys T)
  root_keys-fit = each T.vpes valid.vpes
    where
      each : (ds : List VpeDecl) → All (IsVpeDecl T) ds → All (IsKeyInText T.version) (flat_map (λ d. root_keys_from d 0 d.roots) ds)
      each [] all = All-nil (IsKeyInText T.version)
      each (d ∷ ds) all =
          let declared : IsVpeDecl T d = All-head (IsVpeDecl T) d ds all in
          let few = few-roots d.roots declared.roots declared.selectors_differ in
          All-append (IsKeyInText T.version) (root_keys_from d 0 d.roots) (flat_map (λ x. root_keys_from x 0 x.roots) ds)
          (root-keys-fit d declared 0 d.roots (omega (arith, few))) (each ds (All-tail (IsVpeDecl T) d ds all))

  -- Grants.

  -- no more grants than entries
  grants-length : (J : List Entry) → length (grants J) ≤ length J
  grants-length [] = omega arith
  grants-length (e ∷ es) = from e.grant (grants-length es)
    where
      from : (g : Option (KeyName × KeyName)) → length (grants es) ≤ length es →
          length (filter_map (λ (x : Entry). x.grant) (record e { grant = g } ∷ es)) ≤ length
          (e ∷ es)
      from None rest = omega (arith, rest)
      from (Some g) rest = omega (arith, rest)

  -- a parent and a child of which a text can speak
  abbrev IsGrantInText : KeyName × KeyName → Type 0
  IsGrantInText g = IsKeyInText T.version g.0 × IsKeyInText T.version g.1

  -- the grants of entries that can be told
  grants-fit : (J : List Entry) → All (EntryFits T.version T.kernels) J → All IsGrantInText (grants J)
  grants-fit [] fits = All-nil IsGrantInText
  grants-fit (e ∷ es) fits = from e.grant (All-head (EntryFits T.version T.kernels) e es fits).grant
      (grants-fit es (All-tail (EntryFits T.version T.kernels) e es fits))
    where
      from : (g : Option (KeyName × KeyName)) → GrantFits T.version g → All IsGrantInText (grants es) → All IsGrantInText
          (filter_map (λ (x : Entry). x.grant) (record e { grant = g } ∷ es))
      from None fit rest = rest
      from (Some g) fit rest = All-cons IsGrantInText g (grants es) fit rest

  -- the made keys are keys of a text, and not many
  made-fit : (J : List Entry) → All (EntryFits T.version T.kernels) J → All (IsKeyInText T.version) (made T J)
  made-fit J fits = All-append (IsKeyInText T.version) (root_keys T) (map (λ g. g.1) (grants J)) root_keys-fit (children (grants J) (grants-fit J fits))
    where
      children : (gs : List (KeyName × KeyName)) → All IsGrantInText gs → All (IsKeyInText T.version) (map (λ g. g.1) gs)
      children [] all = All-nil (IsKeyInText T.version)
      children (g ∷ gs) all = All-cons (IsKeyInText T.version) g.1 (map (λ x. x.1) gs) (All-head IsGrantInText g gs all).1
          (children gs (All-tail IsGrantInText g gs all))

  -- how many keys are made
  pub few-made : (J : List Entry) → IsSchedule T J → length (made T J) ≤ 452896
  few-made J runs =
      let joined = length-append (root_keys T) (map (λ (g : KeyName × KeyName). g.1) (grants J)) in
      let mapped = length-map (grants J) (λ (g : KeyName × KeyName). g.1) in
      let roots = few-root_keys in
      let granted = grants-length J in
      let entries = few-entries J runs in
      omega (arith, joined, mapped, roots, granted, entries)

  -- Cuts.

  -- keys of a text
  abbrev InText : List KeyName → Type 0
  InText ks = All (IsKeyInText T.version) ks

  -- one of them
  one-in : (k : KeyName) → IsKeyInText T.version k → InText (k ∷ [])
  one-in k here = All-cons (IsKeyInText T.version) k [] here (All-nil (IsKeyInText T.version))

  -- the children of a key, by such grants
  children-fit : (gs : List (KeyName × KeyName)) (p : KeyName) → All IsGrantInText gs → InText (children_in gs p)
  children-fit gs p all = second (filter (λ g. key_eq g.0 p) gs) (All-filter (λ g. key_eq g.0 p) IsGrantInText gs all)
    where
      second : (xs : List (KeyName × KeyName)) → All IsGrantInText xs → InText (map (λ g. g.1) xs)
      second [] inside = All-nil (IsKeyInText T.version)
      second (g ∷ xs) inside = All-cons (IsKeyInText T.version) g.1 (map (λ x. x.1) xs) (All-head IsGrantInText g xs inside).1
          (second xs (All-tail IsGrantInText g xs inside))

  -- what a call cuts off
  cut_off-fit : (gs : List (KeyName × KeyName)) (detail : Detail) (k : KeyName) → All IsGrantInText gs → IsKeyInText T.version k → InText (cut_off gs detail k)
  cut_off-fit gs (Called index (Derive src dst off len rights)) k all here = All-nil (IsKeyInText T.version)
  cut_off-fit gs (Called index (Gate src dst label credits)) k all here = All-nil (IsKeyInText T.version)
  cut_off-fit gs (Called index (Obtain dst w src)) k all here = All-nil (IsKeyInText T.version)
  cut_off-fit gs (Called index (Delegate src w dst)) k all here = All-nil (IsKeyInText T.version)
  cut_off-fit gs (Called index (OpenSession dst name)) k all here = All-nil (IsKeyInText T.version)
  cut_off-fit gs (Called index (AskOffer dst session offer)) k all here = All-nil (IsKeyInText T.version)
  cut_off-fit gs (Called index (Revoke src)) k all here = one-in k here
  cut_off-fit gs (Called index (Bind ep src)) k all here = All-nil (IsKeyInText T.version)
  cut_off-fit gs (Called index (Read ep off len)) k all here = All-nil (IsKeyInText T.version)
  cut_off-fit gs (Called index (Write ep off len)) k all here = All-nil (IsKeyInText T.version)
  cut_off-fit gs (Called index (SendCall ep len)) k all here = All-nil (IsKeyInText T.version)
  cut_off-fit gs (Called index (Credit ep)) k all here = All-nil (IsKeyInText T.version)
  cut_off-fit gs (Called index Exit) k all here = All-nil (IsKeyInText T.version)
  cut_off-fit gs (Called index (Clear src)) k all here = children-fit gs k all
  cut_off-fit gs (Carried peer message) k all here = All-nil (IsKeyInText T.version)
  cut_off-fit gs (Asked asker answer) k all here = All-nil (IsKeyInText T.version)
  cut_off-fit gs Nothing k all here = All-nil (IsKeyInText T.version)

  -- what an entry cuts off
  cut_by-fit : (before : List Entry) (e : Entry) → All (EntryFits T.version T.kernels) before → CutFits T.version e.cut → InText (cut_by before e)
  cut_by-fit before e fits here = from e.cut here
    where
      from : (o : Option KeyName) → CutFits T.version o → InText (option_map_or (cut_off (grants before) e.detail) o [])
      from None none = All-nil (IsKeyInText T.version)
      from (Some k) some = cut_off-fit (grants before) e.detail k (grants-fit before fits) some

  -- what entries cut off
  cut_from-fit : (before es : List Entry) → All (EntryFits T.version T.kernels) before → All (EntryFits T.version T.kernels) es → InText (cut_from before es)
  unfolding cut_from
  cut_from-fit before [] first later = All-nil (IsKeyInText T.version)
  cut_from-fit before (e ∷ es) first later =
      let here : EntryFits T.version T.kernels e = All-head (EntryFits T.version T.kernels) e es later in
      All-append (IsKeyInText T.version) (cut_by before e) (cut_from (before ++ e ∷ []) es) (cut_by-fit before e first here.cut)
      (cut_from-fit (before ++ e ∷ []) es (All-append (EntryFits T.version T.kernels) before (e ∷ []) first
      (All-cons (EntryFits T.version T.kernels) e [] here (All-nil (EntryFits T.version T.kernels)))) (All-tail (EntryFits T.version T.kernels) e es later))

  -- the same keys, each once
  set-fit : (ks found : List KeyName) → InText ks → InText found → InText (in_turn (λ k list. with_key list k) ks found)
  unfolding in_turn
  set-fit [] found all inside = inside
  set-fit (k ∷ ks) found all inside = set-fit ks (with_key found k) (All-tail (IsKeyInText T.version) k ks all)
      (All-append (IsKeyInText T.version) (filter (λ q. key_lt q k) found) (k ∷ filter (λ q. key_lt k q) found)
      (All-filter (λ q. key_lt q k) (IsKeyInText T.version) found inside)
      (All-cons (IsKeyInText T.version) k (filter (λ q. key_lt k q) found) (All-head (IsKeyInText T.version) k ks all)
      (All-filter (λ q. key_lt k q) (IsKeyInText T.version) found inside)))

  -- a key as one number without gaps, which is in the order of packed words
  abbrev dense : KeyName → ℕ
  dense k = k.pe * 4194304 + k.vpe * 32768 + kind_number k.kind * 4096 + k.number

  -- a kind has a small number
  kind-small : (q : Kind) → kind_number q ≤ 5
  kind-small MemKind = omega arith
  kind-small RecvKind = omega arith
  kind-small SendKind = omega arith
  kind-small ServKind = omega arith
  kind-small SessKind = omega arith

  -- the dense numbers rise with the packed words
  dense-rises : (a b : KeyName) → IsKeyInText T.version a → IsKeyInText T.version b → packed a < packed b → dense a < dense b
  dense-rises a b in_a in_b less =
      let most = most_vpes-le T.version in
      let pe_a = in_a.0 in
      let vpe_a = in_a.1 in
      let number_a = in_a.2 in
      let kind_a = kind-small a.kind in
      let pe_b = in_b.0 in
      let vpe_b = in_b.1 in
      let number_b = in_b.2 in
      let kind_b = kind-small b.kind in
      omega (arith, less, most, pe_a, vpe_a, number_a, kind_a, pe_b, vpe_b, number_b, kind_b)

  -- and are below 2 to the 29
  dense-small : (k : KeyName) → IsKeyInText T.version k → dense k < 536870912
  dense-small k here =
      let most = most_vpes-le T.version in
      let pe = here.0 in
      let vpe = here.1 in
      let number = here.2 in
      let kind = kind-small k.kind in
      omega (arith, most, pe, vpe, number, kind)

  -- the cut keys are keys of a text, each once
  pub few-cut : (J : List Entry) → IsSchedule T J → length (cut T J) ≤ 536870912
  few-cut J runs =
      let fits = entries-fit T valid J runs in
      let cuts : List KeyName = cut_from [] J ++ filter (λ k. has_ended J k.vpe) (made T J) in
      let inside : InText (cut T J) = set-fit cuts [] (All-append (IsKeyInText T.version) (cut_from [] J) (filter (λ k. has_ended J k.vpe) (made T J))
      (cut_from-fit [] J (All-nil (EntryFits T.version T.kernels)) fits)
      (All-filter (λ k. has_ended J k.vpe) (IsKeyInText T.version) (made T J) (made-fit J fits))) (All-nil (IsKeyInText T.version)) in
      let rises = key_set-rises cuts in
      rising-few dense 536870912 (cut T J)
      (λ a b d lt within. dense-rises _ _ (inside a d (omega (arith, lt, within))) (inside b d within) (rises a b d lt within))
      (λ k among. dense-small k (All-contains (IsKeyInText T.version) (cut T J) k inside among))
