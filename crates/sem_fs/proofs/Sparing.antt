-- What a client asked for is cut by its own revokes alone: while the client waits for no revoke, it is neither marked nor asked to be revoked.
use Rattle.std.proofs.Common.{◌≡◌, ◌⊎◌, ℕ, zero, suc, ◌<◌, nat_lt, true, false, List, [], ◌∷◌, length, map, Option, Some, None, refl, sym, ap, ◌∙◌, subst, inl}
use Rattle.std.proofs.Common.{inr, arith}
use Rattle.std.specs.Prelude.{◌==◌}
use Rattle.std.specs.List.{Contains}
use Rattle.std.specs.Option.{option_map_or, IsSome}
use Rattle.std.proofs.lemmas.Bool.{true≢false, cases_Bool, eqb-true, ltb-true, ltb-false}
use Rattle.std.proofs.lemmas.Option.{same_Some}
use Rattle.std.proofs.lemmas.List.Elements.{Contains-append_left, Contains-append_cases}
use Rattle.sem_key.specs.KeyName.{KeyName}
use Rattle.sem_key.specs.Capability.{Capability}
use Rattle.sem_key.proofs.Members.{Contains-nil, Contains-cons_cases, found}
use Rattle.sem_msg.specs.declared.entry.Entry.{Entry}
use Rattle.sem_msg.specs.declared.message.Message.TheVariants.{RevokeReq}
use Rattle.sem_msg.specs.declared.state.Parked.{Parked}
use Rattle.sem_msg.specs.declared.state.Parked.TheVariants.{RevokeWait, Ready}
use Rattle.sem_msg.specs.Rows.{JobRow}
use Rattle.sem_msg.specs.declared.setup.VpeDecl.{VpeDecl}
use Rattle.sem_msg.specs.Setup.{Setup}
use Rattle.sem_msg.specs.Lookups.{decl, calls_of, kernel_of, pe_owner}
use Rattle.sem_machine.specs.Sound.{IsSound}
use Rattle.sem_machine.specs.Sides.{Side, no_side, cap, job, parked, is_alive}
use Rattle.sem_machine.specs.Machine.{World, side}
use Rattle.sem_machine.specs.Schedules.{IsSchedule, world_after}
use Rattle.sem_machine.specs.Journals.{grants, root_keys, ancestry, ancestry_in, parent_in, cut_from}
use Rattle.sem_machine.specs.Living.{HoldsCap, IsLive, InFlight}
use Rattle.sem_safety.specs.Growth.{IsGrown, no_grants, granted_next}
use Rattle.sem_safety.specs.History.{history}
use Rattle.sem_safety.proofs.OneLife.{all-grown}
use Rattle.sem_safety.proofs.GrownLines.{parent-is, parent-granted, line-self}
use Rattle.sem_revoke.specs.Revocation.{IsDoomed, IsWaiting}
use Rattle.sem_revoke.proofs.Cuts.{cut-answered}
use Rattle.sem_revoke.proofs.Served.{revokers-wait, keepers-waited_for}
use Rattle.sem_revoke.proofs.Serving.{all-gone}
use Rattle.sem_revoke.proofs.Dooming.{mark-doomed, request-doomed}
use Rattle.sem_safety.proofs.MarkCauses.{above}
use Rattle.sem_sound.proofs.Scheduling.{schedule-sound}
use Rattle.sem_revoke.proofs.Readying.{schedule-past}
use Rattle.sem_revoke.proofs.Completing.{told-parked}
use Rattle.sem_revoke.proofs.Dying.{dead-ended}
use Rattle.sem_files.specs.Compiled.{SERVER}
use Rattle.sem_fs.specs.Service.{IsService}
use Rattle.sem_fs.proofs.Unending.{no-end}

-- no root is the child of a grant
root-new : (roots : List KeyName) (gs : List (KeyName × KeyName)) → IsGrown roots gs → (p q : KeyName) → Contains roots q → Contains gs (p, q) → ⊥
root-new roots [] no_grants p q root among = Contains-nil (p, q) among
root-new roots _ (granted_next gs p' k' before above new) p q root among = elim (Contains-append_cases gs ((p', k') ∷ []) (p, q) among) [
  | inl old ↦ root-new roots gs before p q root old
  | inr now ↦ elim (Contains-cons_cases (p', k') [] (p, q) now) [
    | inl same ↦ new (Contains-append_left roots (map (λ (g : KeyName × KeyName). g.1) gs) k'
        (subst (Contains roots) (sym (ap (λ (g : KeyName × KeyName). g.1) same)) root))
    | inr none ↦ Contains-nil (p, q) none
  ]
]

-- the line of a child of a key that is no child
short-line : (gs : List (KeyName × KeyName)) (k p : KeyName) → parent_in gs k ≡ Some p → parent_in gs p ≡ None → (n : ℕ) (a : KeyName) →
    Contains (ancestry_in n gs k) a
    → (a ≡ k) ⊎ (a ≡ p)
unfolding ancestry_in
short-line gs k p above top zero a among = elim (Contains-cons_cases k [] a among) [ inl same ↦ inl (sym same) | inr none ↦ absurd (Contains-nil a none) ]
short-line gs k p above top (suc n) a among = elim (Contains-cons_cases k (option_map_or (ancestry_in n gs) (parent_in gs k) []) a among) [
  | inl same ↦ inl (sym same)
  | inr rest ↦ inr (alone n (subst (λ o. Contains (option_map_or (ancestry_in n gs) o []) a) above rest))
]
  where
    alone : (m : ℕ) → Contains (ancestry_in m gs p) a → a ≡ p
    alone zero among = elim (Contains-cons_cases p [] a among) [ inl same ↦ sym same | inr none ↦ absurd (Contains-nil a none) ]
    alone (suc m) among = elim (Contains-cons_cases p (option_map_or (ancestry_in m gs) (parent_in gs p) []) a among) [
      | inl same ↦ sym same
      | inr rest ↦ absurd (Contains-nil a (subst (λ o. Contains (option_map_or (ancestry_in m gs) o []) a) top rest))
    ]

module _ (T : Setup) (S : IsService T) (J : List Entry) (runs : IsSchedule T J) where
  abbrev W : World
  W = world_after T J

  -- the side of the kernel of a VPE
  abbrev home : ℕ → Side
  home v = side W (kernel_of T v)

  pub grown_so : IsGrown (root_keys T) (grants J)
  grown_so = all-grown T S.setup J runs

  -- a declared VPE is alive
  pub lives : (v : ℕ) (d : VpeDecl) → decl T v ≡ Some d → is_alive (home v) v ≡ true
  lives v d at = elim (cases_Bool (is_alive (home v) v)) [
    | inl alive ↦ alive
    | inr dead ↦
        let there = found (λ (x : VpeDecl). x.vpe == v) T.vpes d at in
        let same : d.vpe ≡ v = eqb-true d.vpe v there.1 in
        let here : kernel_of T v ≡ pe_owner T d.pe = ap (λ o. option_map_or (λ (x : VpeDecl). pe_owner T x.pe) o T.kernels) at in
        let down : is_alive (side W (pe_owner T d.pe)) d.vpe ≡ false = ap (λ u. is_alive (side W (pe_owner T d.pe)) u) same
        ∙ (ap (λ i. is_alive (side W i) v) (sym here) ∙ dead) in
        absurd (true≢false (sym (dead-ended T S.setup J runs d there.0 down) ∙ no-end T S J runs d.vpe))
  ]

  -- so its kernel is one of the setup, and keeps a sound side
  pub low : (v : ℕ) (d : VpeDecl) → decl T v ≡ Some d → kernel_of T v < T.kernels
  low v d at = elim (cases_Bool (nat_lt (kernel_of T v) T.kernels)) [
    | inl less ↦ ltb-true (kernel_of T v) T.kernels less
    | inr more ↦
        let past = ltb-false (kernel_of T v) T.kernels more in
        let none : home v ≡ no_side = schedule-past T J runs (kernel_of T v) (omega (arith, past)) in
        absurd (true≢false (sym (lives v d at) ∙ ap (λ s. is_alive s v) none))
  ]

  pub sound : (v : ℕ) (d : VpeDecl) → decl T v ≡ Some d → IsSound T (kernel_of T v) (home v)
  sound v d at = (schedule-sound T S.setup J runs).sides (kernel_of T v) (low v d at)

  -- the server waits for nothing
  pub server-rests : parked (home SERVER) SERVER ≡ None
  server-rests = from (parked (home SERVER) SERVER) refl
    where
      from : (p : Option Parked) → parked (home SERVER) SERVER ≡ p → parked (home SERVER) SERVER ≡ None
      from None none = none
      from (Some p) some =
          let told = told-parked T S.setup J runs SERVER p (lives SERVER S.server S.declared) some in
          let few = ((sound SERVER S.server S.declared).rows SERVER).next_call in
          let none : length (calls_of T SERVER) ≡ 0 = ap length S.rests in
          absurd (omega (arith, told, few, none))

  -- who waits for what it cuts off waits for a revoke
  abbrev pub Revokes : Option Parked → Type 0
  Revokes p = ((n : ℕ) × (p ≡ Some (RevokeWait n))) ⊎ ((code : ℕ) × (p ≡ Some (Ready code)))

  waits-so : (v : ℕ) (d : VpeDecl) → decl T v ≡ Some d → (k r : KeyName) → IsWaiting T J v k r → Revokes (parked (home v) v)
  waits-so v d at k r w = elim (subst (λ i. (is_alive (side W i) v ≡ false) ⊎ Revokes (parked (side W i) v)) (sym w.home) w.rest) [
    | inl dead ↦ absurd (true≢false (sym (lives v d at) ∙ dead))
    | inr waits ↦ waits
  ]

  server-cuts-nothing : (ks : List KeyName) (k : KeyName) → Contains (history J).waiting (SERVER, ks) → Contains ks k → ⊥
  server-cuts-nothing ks k among cuts =
      let w = revokers-wait T S.setup J runs SERVER ks k among cuts in
      elim (waits-so SERVER S.server S.declared k w.0 w.1) [
        | inl (n, is) ↦ let no' : None ≡ Some (RevokeWait n) = sym server-rests ∙ is in absurd cc
        | inr (code, is) ↦ let no' : None ≡ Some (Ready code) = sym server-rests ∙ is in absurd cc
      ]

  -- a root is in use, and was not cut off
  pub root-spared : (p k : KeyName) → Contains (root_keys T) p → Contains (grants J) (p, k) → IsLive W k → Contains (cut_from [] J) p → ⊥
  root-spared p k root granted live cut = elim (cut-answered T S.setup J runs p cut) [
    | inr told ↦ all-gone T S.setup J runs k p (inl live) (parent-ancestor-of p k granted) told
    | inl being ↦
        let own : being.own ≡ p = elim being.below [
          | inl same ↦ sym same
          | inr above ↦ absurd (root-new (root_keys T) (grants J) grown_so being.own p root above)
        ] in
        let server : being.vpe ≡ SERVER = sym being.whose ∙ (ap (λ (q : KeyName). q.vpe) own ∙ S.roots p root) in
        server-cuts-nothing being.keys p (subst (λ v. Contains (history J).waiting (v, being.keys)) server being.waits) being.among
  ]
    where
      parent-ancestor-of : (p k : KeyName) → Contains (grants J) (p, k) → Contains (ancestry J k) p
      parent-ancestor-of p k granted = above T S.setup J runs p k granted

  -- a root is no child
  pub top : (p : KeyName) → Contains (root_keys T) p → parent_in (grants J) p ≡ None
  top p root = from (parent_in (grants J) p) refl
    where
      from : (o : Option KeyName) → parent_in (grants J) p ≡ o → parent_in (grants J) p ≡ None
      from None none = none
      from (Some q) some = absurd (root-new (root_keys T) (grants J) grown_so q p root (parent-granted (grants J) p q some))

  -- what was granted below a root and is live was cut off only if its VPE still waits for that
  pub cut-waits : (p k : KeyName) (d : VpeDecl) → Contains (root_keys T) p → Contains (grants J) (p, k) → decl T k.vpe ≡ Some d → IsLive W k
      → Contains (cut_from [] J) k → Revokes (parked (home k.vpe) k.vpe) × (parked (home k.vpe) k.vpe ≡ Some (Ready 0) → ⊥)
  cut-waits p k d root granted at live cut = elim (cut-answered T S.setup J runs k cut) [
    | inr told ↦ absurd (all-gone T S.setup J runs k k (inl live) (line-self (length J) (grants J) k) told)
    | inl being ↦
        let w = revokers-wait T S.setup J runs being.vpe being.keys k being.waits being.among in
        let own : being.vpe ≡ k.vpe = elim being.below [
          | inl same ↦ sym being.whose ∙ ap (λ (q : KeyName). q.vpe) (sym same)
          | inr below ↦
              let same : Some being.own ≡ Some p = sym (parent-is (root_keys T) (grants J) grown_so being.own k below)
              ∙ parent-is (root_keys T) (grants J) grown_so p k granted in
              let server : being.vpe ≡ SERVER = sym being.whose ∙ (ap (λ (q : KeyName). q.vpe) (same_Some being.own p same) ∙ S.roots p root) in
              absurd (server-cuts-nothing being.keys k (subst (λ v. Contains (history J).waiting (v, being.keys)) server being.waits) being.among)
        ] in
        let mine : IsWaiting T J k.vpe k w.0 = subst (λ v. IsWaiting T J v k w.0) own w.1 in
        (waits-so k.vpe d at k w.0 mine, λ ready. mine.ready (ap (λ i. parked (side W i) k.vpe) (sym mine.home) ∙ ready) live)
  ]

  -- and so it is doomed only while its VPE waits for a revoke
  pub doomed-cut : (p k : KeyName) → Contains (root_keys T) p → Contains (grants J) (p, k) → (Contains (cut_from [] J) p → ⊥) → IsDoomed J k
      → Contains (cut_from [] J) k
  doomed-cut p k root granted spared (a, among, cut) = elim cut [
    | inr ended ↦ absurd (true≢false (sym ended ∙ no-end T S J runs a.vpe))
    | inl cut_off ↦ elim (short-line (grants J) k p (parent-is (root_keys T) (grants J) grown_so p k granted) (top p root) (length J) a among) [
      | inr parent ↦ absurd (spared (subst (Contains (cut_from [] J)) parent cut_off))
      | inl self ↦ subst (Contains (cut_from [] J)) self cut_off
    ]
  ]

  pub doomed-waits : (p k : KeyName) (d : VpeDecl) → Contains (root_keys T) p → Contains (grants J) (p, k) → decl T k.vpe ≡ Some d → IsLive W k → IsDoomed J k
      → Revokes (parked (home k.vpe) k.vpe)
  doomed-waits p k d root granted at live doomed =
      (cut-waits p k d root granted at live (doomed-cut p k root granted (root-spared p k root granted live) doomed)).0

  -- what holds something is a kernel of the setup
  pub held-low : (i : ℕ) (k : KeyName) (c : Capability) → HoldsCap W i k c → i < T.kernels
  held-low i k c held = elim (cases_Bool (nat_lt i T.kernels)) [
    | inl less ↦ ltb-true i T.kernels less
    | inr more ↦
        let past = ltb-false i T.kernels more in
        let none : side W i ≡ no_side = schedule-past T J runs i (omega (arith, past)) in
        let no' : None ≡ Some c = sym (ap (λ s. cap s k) none) ∙ held in
        absurd cc
  ]

  -- so it is not marked, and nobody asks to revoke it
  pub unmarked : (p k : KeyName) (d : VpeDecl) → Contains (root_keys T) p → Contains (grants J) (p, k) → decl T k.vpe ≡ Some d
      → (Revokes (parked (home k.vpe) k.vpe) → ⊥) → (i : ℕ) (c : Capability) → HoldsCap W i k c → c.mark ≡ None
  unmarked p k d root granted at free i c held = from c.mark refl
    where
      live : IsLive W k
      live = inl (i, subst IsSome (sym held) (some c))
        where
          some : (x : Capability) → IsSome (Some x)
          some x = refl

      keeper : {n : ℕ} → (x : JobRow) → job (side W i) n ≡ Some x → x.root ≡ k → x.keep ≡ true → parked (home k.vpe) k.vpe ≡ Some (RevokeWait n)
      keeper {n} x open_ same keeps =
          let waits : parked (side W i) k.vpe ≡ Some (RevokeWait n) = ap (λ (q : KeyName). parked (side W i) q.vpe) (sym same)
          ∙ keepers-waited_for T S.setup J runs i n x open_ keeps in
          let here = (((schedule-sound T S.setup J runs).sides i (held-low i k c held)).calls k.vpe (RevokeWait n) waits).0 in
          ap (λ j. parked (side W j) k.vpe) here ∙ waits

      from : (m : Option ℕ) → c.mark ≡ m → c.mark ≡ None
      from None none = none
      from (Some n) marked = elim (mark-doomed T S.setup J runs i n k c held marked) [
        | inl doomed ↦ absurd (free (doomed-waits p k d root granted at live doomed))
        | inr (x, open_, same, keeps) ↦ absurd (free (inl (n, keeper x open_ same keeps)))
      ]

  pub unasked : (p k : KeyName) (d : VpeDecl) → Contains (root_keys T) p → Contains (grants J) (p, k) → decl T k.vpe ≡ Some d → IsLive W k
      → (Revokes (parked (home k.vpe) k.vpe) → ⊥) → (j : ℕ) → InFlight W (RevokeReq k j) → ⊥
  unasked p k d root granted at live free j flies = free (doomed-waits p k d root granted at live (request-doomed T S.setup J runs k j flies))
