-- At the start a side speaks of what a text of the version can speak of.
use Rattle.std.proofs.Common.{◌≡◌, ℕ, ◌<◌, true, false, List, [], ◌∷◌, not, Option, Some, None, refl, subst}
use Rattle.std.specs.Prelude.{◌==◌}
use Rattle.std.specs.List.{All, Contains, filter}
use Rattle.std.specs.Option.{option_map_or}
use Rattle.std.proofs.lemmas.Bool.{eqb-true}
use Rattle.std.proofs.lemmas.List.Elements.{All-append, All-cons, All-contains, All-filter, All-nil, All-replicate}
use Rattle.sem_key.specs.declared.limits.TheConstants.{VPES}
use Rattle.sem_key.specs.declared.object.Object.{Object}
use Rattle.sem_key.specs.declared.object.Object.TheVariants.{Mem, Recv, Send, Serv, Sess}
use Rattle.sem_key.specs.KeyName.{KeyName, key_lt}
use Rattle.sem_key.specs.Capability.{Capability}
use Rattle.sem_key.specs.CapList.{fresh}
use Rattle.sem_key.proofs.Members.{found, Contains-from_filter, Contains-head, Contains-tail}
use Rattle.sem_msg.specs.declared.message.Message.{Message}
use Rattle.sem_msg.specs.declared.setup.Root.{Root}
use Rattle.sem_msg.specs.declared.setup.VpeDecl.{VpeDecl}
use Rattle.sem_msg.specs.declared.state.Parked.{Parked}
use Rattle.sem_msg.specs.declared.state.Pending.{Pending}
use Rattle.sem_msg.specs.Rows.{VpeRow, no_vpe}
use Rattle.sem_msg.specs.Setup.{Setup, IsSetup, IsVpeDecl, IsRoot, IsRootObject}
use Rattle.sem_msg.specs.VpeRows.{new_vpe, next_root, root_held}
use Rattle.sem_msg.specs.Lookups.{decl, own_vpes}
use Rattle.sem_trace.specs.Ranges.{IsNode, IsKeyInText}
use Rattle.sem_machine.specs.Sides.{Side, no_side, row}
use Rattle.sem_machine.specs.Machine.{start_side, empty_side, vpe_added, vpe_fresh, root_added}
use Rattle.sem_machine.specs.Sound.{IsSound, IsNamed, IsSoundCap}
use Rattle.sem_machine.proofs.Folds.{in_turn-keeps_each}
use Rattle.sem_safety.proofs.Carrying.{All-put, All-read}
use Rattle.sem_sound.proofs.Starting.{start-sound}
use Rattle.sem_fits.proofs.Near.{NearObject, NearMessage, NearMessages, NearInbox, NearCall, NearPending, NearParent, NearCap, NearRow, NearAsk, NearSide}
use Rattle.sem_fits.proofs.Near.{no_row-near}

-- a side that keeps nothing
pub no_side-near : (version : ℕ) → NearSide version no_side
no_side-near version = record {
  caps = All-nil (NearCap version);
  rows = All-nil (NearRow version);
  parks = All-nil (NearCall version);
  pendings = All-nil
      (NearPending version);
  inbox = tt;
  outs = All-nil (NearMessages version);
}

-- a declared key is one of a text
pub declared-key : (T : Setup) → IsSetup T → (k : KeyName) → IsNamed T k → IsKeyInText T.version k
declared-key T valid k named = from (decl T k.vpe) refl named.1
  where
    from : (o : Option VpeDecl) → decl T k.vpe ≡ o → option_map_or (λ d. d.pe == k.pe) o false ≡ true → IsKeyInText T.version k
    from None none no' = absurd cc
    from (Some d) some same =
        let there = found (λ (y : VpeDecl). y.vpe == k.vpe) T.vpes d some in
        let declared : IsVpeDecl T d = All-contains (IsVpeDecl T) T.vpes d valid.vpes there.0 in
        (subst (IsNode T.version) (eqb-true d.pe k.pe same) declared.pe, subst (IsNode T.version) (eqb-true d.vpe k.vpe there.1) declared.vpe, named.0.2)

-- what a root is, is said of no other key and no other VPE
root-object-near : (version : ℕ) (o : Object) → IsRootObject o → NearObject version o
root-object-near version (Mem base len rights) kind = tt
root-object-near version (Recv slots) kind = tt
root-object-near version (Send gate label credits) kind = absurd kind
root-object-near version (Serv name) kind = tt
root-object-near version (Sess service ident) kind = absurd kind

module _ (version : ℕ) where
  -- as at the start: roots are held, and nothing is under way
  pub record NearStart (cs : List Capability) (rs : List VpeRow) (ps : List (Option Parked)) (ds : List Pending) (fetched : Option (ℕ × Message))
      (os : List (List Message)) : Type 0 where
    pub objects : All (λ c. NearObject version c.object) cs
    pub rows : All (NearRow version) rs
    pub parks : All (NearCall version) ps
    pub pendings : All (NearPending version) ds
    pub inbox : NearInbox version fetched
    pub outs : All (NearMessages version) os

  -- of a side
  abbrev Starts : Side → Type 0
  Starts s = NearStart s.caps s.vpes s.parks s.pendings s.inbox s.outs

  -- one more root
  root-starts : (d : VpeDecl) (r : Root) → IsRoot r → (s : Side) → Starts s → Starts (root_added d r s)
  root-starts d r root s is =
      let P : Capability → Type 0 = λ c. NearObject version c.object in
      let c : Capability = fresh (next_root d r (row s d.vpe)) None r.sel r.object in
      record {
        objects = All-append P (filter (λ x. key_lt x.key c.key) s.caps) (c ∷ filter (λ x. not (key_lt x.key c.key)) s.caps)
            (All-filter (λ x. key_lt x.key c.key) P s.caps is.objects)
            (All-cons P c (filter (λ x. not (key_lt x.key c.key)) s.caps) (root-object-near version r.object root.kind)
            (All-filter (λ x. not (key_lt x.key c.key)) P s.caps is.objects));
        rows = All-put (NearRow version) no_vpe s.vpes d.vpe (root_held d r (row s d.vpe)) (no_row-near version)
            (All-read (NearRow version) no_vpe s.vpes d.vpe (no_row-near version) is.rows) is.rows;
        parks = is.parks;
        pendings = is.pendings;
        inbox = is.inbox;
        outs = is.outs;
      }

  -- one more VPE
  fresh-starts : (d : VpeDecl) (s : Side) → Starts s → Starts (vpe_fresh d s)
  fresh-starts d s is = record {
    objects = is.objects;
    rows = All-put (NearRow version) no_vpe s.vpes d.vpe new_vpe (no_row-near version)
        (All-nil (NearAsk version)) is.rows;
    parks = is.parks;
    pendings = is.pendings;
    inbox = is.inbox;
    outs = is.outs;
  }

  -- a VPE with its roots
  vpe-starts : (d : VpeDecl) → All IsRoot d.roots → (s : Side) → Starts s → Starts (vpe_added d s)
  vpe-starts d roots s is =
      in_turn-keeps_each Starts (root_added d) d.roots (λ r among t here. root-starts d r (All-contains IsRoot d.roots r roots among) t here)
      (vpe_fresh d s) (fresh-starts d s is)

module _ (T : Setup) (valid : IsSetup T) where
  side-starts : (i : ℕ) → Starts T.version (start_side T i)
  unfolding start_side
  side-starts i = in_turn-keeps_each (Starts T.version) vpe_added (own_vpes T i)
      (λ d among t here. let declared : IsVpeDecl T d = All-contains (IsVpeDecl T) T.vpes d valid.vpes
      (Contains-from_filter _ T.vpes d among).0 in vpe-starts T.version d declared.roots t here) (empty_side T) (record {
        objects = All-nil (λ c. NearObject T.version c.object);
        rows = All-replicate (NearRow T.version) VPES no_vpe (no_row-near T.version);
        parks = All-replicate (NearCall T.version) VPES None tt;
        pendings = All-nil (NearPending T.version);
        inbox = tt;
        outs = All-replicate (NearMessages T.version) T.kernels [] (All-nil (NearMessage T.version));
      })

  -- capabilities that are sound, with such objects
  caps-near : (i : ℕ) (cs : List Capability) → ((c : Capability) → Contains cs c → IsSoundCap T i c) → All (λ c. NearObject T.version c.object) cs
      → All (NearCap T.version) cs
  caps-near i cs sound objects = each cs (λ c among. one c (sound c among) (All-contains (λ x. NearObject T.version x.object) cs c objects among))
    where
      parent-near : (o : Option KeyName) → ((p : KeyName) → o ≡ Some p → IsNamed T p) → NearParent T.version o
      parent-near None named = tt
      parent-near (Some p) named = declared-key T valid p (named p refl)

      keys-near : (ks : List KeyName) → ((k : KeyName) → Contains ks k → IsNamed T k) → All (IsKeyInText T.version) ks
      keys-near [] named = All-nil (IsKeyInText T.version)
      keys-near (k ∷ ks) named = All-cons (IsKeyInText T.version) k ks (declared-key T valid k (named k (Contains-head k ks)))
          (keys-near ks (λ q among. named q (Contains-tail k ks q among)))

      one : (c : Capability) → IsSoundCap T i c → NearObject T.version c.object → NearCap T.version c
      one c is object = record {
        key = declared-key T valid c.key is.own.0;
        parent = parent-near c.parent is.parent;
        children = keys-near c.children is.children;
        object = object;
      }

      each : (xs : List Capability) → ((c : Capability) → Contains xs c → NearCap T.version c) → All (NearCap T.version) xs
      each [] near = All-nil (NearCap T.version)
      each (x ∷ xs) near = All-cons (NearCap T.version) x xs (near x (Contains-head x xs)) (each xs (λ c among. near c (Contains-tail x xs c among)))

  -- the side of each kernel at the start
  pub start_side-near : (i : ℕ) → i < T.kernels → NearSide T.version (start_side T i)
  start_side-near i few =
      let begins : Starts T.version (start_side T i) = side-starts i in
      let sound : IsSound T i (start_side T i) = start-sound T valid i few in
      record {
        caps = caps-near i (start_side T i).caps sound.caps begins.objects;
        rows = begins.rows;
        parks = begins.parks;
        pendings = begins.pendings;
        inbox = begins.inbox;
        outs = begins.outs;
      }
