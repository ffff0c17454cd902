-- At the start a client has nothing, and the server has what it serves.
use Rattle.std.proofs.Common.{◌≡◌, ℕ, ◌+◌, ◌<◌, Bool, true, false, List, [], ◌∷◌, take, Option, Some, None, append-nil, refl, sym, ap, ◌∙◌, subst, inl, inr}
use Rattle.std.proofs.Common.{arith, eq-eqb}
use Rattle.std.specs.Prelude.{◌==◌, ◌&&◌}
use Rattle.std.specs.List.{Contains}
use Rattle.std.specs.Option.{option_map_or, IsSome}
use Rattle.std.proofs.lemmas.Bool.{true≢false, eqb-true, ne_eqb}
use Rattle.std.proofs.lemmas.List.FromFn.{get_or-map-range_with_len}
use Rattle.sem_key.specs.declared.key.Kind.TheVariants.{Mem as MemKind}
use Rattle.sem_key.specs.declared.limits.TheConstants.{RIGHTS}
use Rattle.sem_key.specs.declared.object.Object.TheVariants.{Mem}
use Rattle.sem_files.specs.Files.{EXTENT}
use Rattle.sem_key.specs.KeyName.{KeyName}
use Rattle.sem_key.specs.Capability.{Capability}
use Rattle.sem_key.specs.CapList.{fresh}
use Rattle.sem_key.specs.Lists.{in_turn}
use Rattle.sem_key.proofs.Members.{Contains-nil, Contains-cons_cases, Contains-head, Contains-tail, Contains-filter, Contains-flat_map, found}
use Rattle.sem_key.proofs.Puts.{get_or-put_same}
use Rattle.sem_msg.specs.declared.setup.Root.{Root}
use Rattle.sem_msg.specs.declared.setup.VpeDecl.{VpeDecl}
use Rattle.sem_msg.specs.declared.state.Pending.{Pending}
use Rattle.sem_msg.specs.declared.state.Slot.{Slot}
use Rattle.sem_msg.specs.declared.state.Slot.TheVariants.{Free, Held, Promised}
use Rattle.sem_msg.specs.Rows.{VpeRow, no_vpe}
use Rattle.sem_msg.specs.Setup.{Setup, root_key}
use Rattle.sem_msg.specs.VpeRows.{new_vpe, root_held}
use Rattle.sem_msg.specs.Lookups.{decl, calls_of, kernel_of, own_vpes, pe_owner, runs_on}
use Rattle.sem_machine.specs.Sides.{Side, no_side, row, slot, parked, is_alive}
use Rattle.sem_machine.specs.Sound.{IsSound, kept, keeps_selector, is_promised, bit}
use Rattle.sem_machine.specs.Machine.{World, side, start, start_side, empty_side, root_added, vpe_added, vpe_fresh}
use Rattle.sem_machine.specs.Schedules.{IsRun, IsSchedule}
use Rattle.sem_machine.specs.Journals.{root_keys, root_keys_from, cut_from}
use Rattle.sem_machine.proofs.Folds.{in_turn-keeps}
use Rattle.sem_machine.proofs.Weighing.{weigh-none}
use Rattle.sem_safety.proofs.CarryingWorlds.{used-made}
use Rattle.sem_revoke.proofs.Completing.{told-free}
use Rattle.sem_revoke.proofs.ExchangeWorlds.{start-unparked}
use Rattle.sem_sound.proofs.Holding.{with_cap-has, with_cap-keeps}
use Rattle.sem_files.specs.Compiled.{SERVER}
use Rattle.sem_fs.specs.Service.{GIVEN, IsService, IsExtent, holds}
use Rattle.sem_fs.specs.Serving.{IsServedSide, Served}
use Rattle.sem_fs.specs.Holding.{home, calls_so_far, IsHolding, Offers}
use Rattle.sem_fs.specs.Supplies.{IsServing}
use Rattle.sem_fs.proofs.Sparing.{lives, low, sound}
use Rattle.sem_fs.proofs.Owned.{slot-cap}
use Rattle.sem_fs.proofs.ServedWorlds.{start-served, any-serves}

-- The roots of a VPE.

root-next : (d : VpeDecl) (r : Root) (s : Side) → (row (root_added d r s) d.vpe).next_number ≡ (row s d.vpe).next_number + 1
root-next d r s = ap (λ (x : VpeRow). x.next_number) (get_or-put_same no_vpe s.vpes d.vpe (root_held d r (row s d.vpe)))

caps-grow : (d : VpeDecl) (rs : List Root) (s : Side) (c : Capability) → Contains s.caps c → Contains (in_turn (root_added d) rs s).caps c
caps-grow d rs s c among = in_turn-keeps (λ t. Contains t.caps c) (root_added d)
    (λ r t here. with_cap-keeps t.caps (fresh (root_key d (row t d.vpe).next_number r) None r.sel r.object) c here) rs s among

pub record IsPlaced (d : VpeDecl) (n : ℕ) (rs : List Root) (r : Root) (s : Side) : Type 0 where
  pub number : ℕ
  pub root : Contains (root_keys_from d n rs) (root_key d number r)
  pub capability : Contains (in_turn (root_added d) rs s).caps (fresh (root_key d number r) None r.sel r.object)

roots-placed : (d : VpeDecl) (rs : List Root) (n : ℕ) (s : Side) → (row s d.vpe).next_number ≡ n → (r : Root) → Contains rs r → IsPlaced d n rs r s
unfolding in_turn root_keys_from
roots-placed d [] n s at r among = absurd (Contains-nil r among)
roots-placed d (x ∷ rs) n s at r among = elim (Contains-cons_cases x rs r among) [
  | inl same ↦
      let c : Capability = fresh (root_key d (row s d.vpe).next_number x) None x.sel x.object in
      let there : Contains (in_turn (root_added d) rs (root_added d x s)).caps c = caps-grow d rs (root_added d x s) c (with_cap-has s.caps c) in
      record {
        number = n;
        root = subst (λ y. Contains (root_key d n x ∷ root_keys_from d (n + 1) rs) (root_key d n y)) same
            (Contains-head (root_key d n x) (root_keys_from d (n + 1) rs));
        capability = subst (λ y. Contains (in_turn (root_added d) rs (root_added d x s)).caps (fresh (root_key d n y) None y.sel y.object)) same
            (subst (λ m. Contains (in_turn (root_added d) rs (root_added d x s)).caps (fresh (root_key d m x) None x.sel x.object)) at there);
      }
  | inr rest ↦
      let y = roots-placed d rs (n + 1) (root_added d x s) (root-next d x s ∙ ap (λ m. m + 1) at) r rest in
      record {
        number = y.number;
        root = Contains-tail (root_key d n x) (root_keys_from d (n + 1) rs) (root_key d y.number r) y.root;
        capability = y.capability;
      }
]

fresh-next : (d : VpeDecl) (s : Side) → (row (vpe_fresh d s) d.vpe).next_number ≡ 0
fresh-next d s = ap (λ (x : VpeRow). x.next_number) (get_or-put_same no_vpe s.vpes d.vpe new_vpe)

vpes-placed : (ds : List VpeDecl) (s : Side) (d : VpeDecl) (r : Root) → Contains ds d → Contains d.roots r → (n : ℕ)
    × Contains (root_keys_from d 0 d.roots) (root_key d n r) × Contains (in_turn vpe_added ds s).caps (fresh (root_key d n r) None r.sel r.object)
unfolding in_turn
vpes-placed [] s d r among root = absurd (Contains-nil d among)
vpes-placed (x ∷ ds) s d r among root = elim (Contains-cons_cases x ds d among) [
  | inl same ↦
      let y = roots-placed x x.roots 0 (vpe_fresh x s) (fresh-next x s) r (subst (λ (z : VpeDecl). Contains z.roots r) (sym same) root) in
      let c : Capability = fresh (root_key x y.number r) None r.sel r.object in
      let kept' : Contains (in_turn vpe_added ds (vpe_added x s)).caps c =
      in_turn-keeps (λ t. Contains t.caps c) vpe_added (λ z t here. caps-grow z z.roots (vpe_fresh z t) c here) ds (vpe_added x s) y.capability in (
        y.number,
        subst (λ (z : VpeDecl). Contains (root_keys_from z 0 z.roots) (root_key z y.number r)) same y.root,
        subst
            (λ (z : VpeDecl). Contains (in_turn vpe_added ds (vpe_added x s)).caps (fresh (root_key z y.number r) None r.sel r.object)) same kept',
      )
  | inr rest ↦ vpes-placed ds (vpe_added x s) d r rest root
]

no-entries : (T : Setup) → IsSchedule T []
unfolding IsRun
no-entries T = tt

side-placed : (T : Setup) (i : ℕ) (d : VpeDecl) (r : Root) → Contains (own_vpes T i) d → Contains d.roots r → (n : ℕ)
    × Contains (root_keys_from d 0 d.roots) (root_key d n r) × Contains (start_side T i).caps (fresh (root_key d n r) None r.sel r.object)
unfolding start_side
side-placed T i d r among root = vpes-placed (own_vpes T i) (empty_side T) d r among root

side-is : (T : Setup) (i : ℕ) → i < T.kernels → side (start T) i ≡ start_side T i
unfolding start
side-is T i less = get_or-map-range_with_len (start_side T) 0 T.kernels i i no_side less (omega arith)

-- a selector that is not given to, and for which nobody waits, is not promised
pub unpromised : (T : Setup) (i : ℕ) (s : Side) → IsSound T i s → IsServedSide T s → (v sel : ℕ) → sel < GIVEN → (row s v).alive ≡ true →
    kept (parked s v) ≡ None
    → slot s v sel ≡ Promised → ⊥
unpromised T i s sound served v sel near alive idle at =
    let most = sound.no_other_promise v sel alive in
    let one : is_promised (slot s v sel) ≡ 1 = ap is_promised at in
    let none : keeps_selector sel (kept (parked s v)) ≡ 0 = ap (keeps_selector sel) idle in
    let pends = weigh-none (λ (p : Pending). bit ((p.key.vpe == v) && (p.sel == sel))) s.pendings (λ p among.
    let far = served.pendings p among in
    ap (λ b. bit ((p.key.vpe == v) && b)) (ne_eqb p.sel sel (λ same. omega (arith, same, far, near))) ∙ ap bit (both (p.key.vpe == v))) in
    omega (arith, most, one, none, pends)
  where
    both : (b : Bool) → (b && false) ≡ false
    both true = refl
    both false = refl

module _ (T : Setup) (S : IsService T) where
  abbrev W : World
  W = start T

  runs : IsSchedule T []
  runs = no-entries T

  pub start-holding : (v : ℕ) (d : VpeDecl) → decl T v ≡ Some d → (v ≡ SERVER → ⊥) → IsHolding T [] v
  start-holding v d at client = record {
    held = λ sel near is. absurd (true≢false (sym is ∙ ap (λ cs. holds cs sel) none-made));
    free = λ sel near is. inl (by_slot sel near (slot (home T W v) v sel) refl);
    awaited = λ number sel is. let no' : ◌≡◌ {A = Option (ℕ × ℕ)} None (Some (number, sel)) = sym (ap kept idle) ∙ is in absurd cc;
    offered = λ p is. absurd (subst (λ o. Offers o p) idle is);
  }
    where
      idle : parked (home T (start T) v) v ≡ None
      idle = start-unparked T (kernel_of T v) v

      alive : is_alive (home T (start T) v) v ≡ true
      alive = lives T S [] (no-entries T) v d at

      none-made : calls_so_far T (start T) v ≡ []
      none-made =
          let told = told-free T S.setup [] (no-entries T) v alive idle in
          ap (λ n. take n (calls_of T v)) (sym told)

      by_slot : (sel : ℕ) → sel < GIVEN → (x : Slot) → slot (home T (start T) v) v sel ≡ x → x ≡ Free
      by_slot sel near Free is = refl
      by_slot sel near Promised is =
          absurd (unpromised T (kernel_of T v) (home T (start T) v) (sound T S [] (no-entries T) v d at)
          ((start-served T (Served T) (any-serves T)).sides (kernel_of T v)) v sel near alive (ap kept idle) is)
      by_slot sel near (Held k) is =
          let sound-v = sound T S [] (no-entries T) v d at in
          let c = slot-cap T S.setup (kernel_of T v) (low T S [] (no-entries T) v d at) (home T (start T) v) sound-v v sel k is in
          let root = subst (λ ks. Contains ks k) (append-nil (root_keys T))
          (used-made T [] (no-entries T) k (inl (inl (kernel_of T v, subst IsSome (sym c.1) refl))))
          in
          absurd (client (sym (sound-v.held v sel k is).0 ∙ S.roots k root))

  pub start-serving : IsServing T []
  unfolding cut_from
  start-serving = record { extent = placed; uncut = λ k root cut. Contains-nil k cut }
    where
      placed : (sel : ℕ) → IsExtent T sel → (k : KeyName) × (slot (home T (start T) SERVER) SERVER sel ≡ Held k) × Contains (root_keys T) k × (k.kind ≡ MemKind)
      placed sel x =
          let d : VpeDecl = x.server in
          let r : Root = record { sel = sel; object = Mem x.base EXTENT RIGHTS } in
          let there = found (λ (y : VpeDecl). y.vpe == SERVER) T.vpes d x.declared in
          let vpe : d.vpe ≡ SERVER = eqb-true d.vpe SERVER there.1 in
          let i : ℕ = kernel_of T SERVER in
          let here : pe_owner T d.pe ≡ i = sym (ap (λ o. option_map_or (λ (y : VpeDecl). pe_owner T y.pe) o T.kernels) x.declared) in
          let less = low T S [] (no-entries T) SERVER S.server S.declared in
          let y = side-placed T i d r (Contains-filter (runs_on T i) T.vpes d there.0 (eq-eqb (pe_owner T d.pe) i here)) x.root in
          let k : KeyName = root_key d y.0 r in
          let c : Capability = fresh k None sel r.object in
          let among : Contains (home T (start T) SERVER).caps c = subst (λ (s : Side). Contains s.caps c) (sym (side-is T i less)) y.2 in
          let at = (sound T S [] (no-entries T) SERVER S.server S.declared).at_selector c among in (
            k,
            ap (λ v. slot (home T (start T) SERVER) v sel) (sym vpe)
                ∙ at,
            Contains-flat_map (λ (z : VpeDecl). root_keys_from z 0 z.roots) T.vpes d k there.0 y.1,
            refl,
          )
