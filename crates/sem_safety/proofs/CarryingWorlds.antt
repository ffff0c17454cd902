-- A fact about the keys that a world carries: the start has it of the roots, each step keeps it where the key that is granted has it, and what is in use has
-- it.
use Rattle.std.proofs.Common.{◌≡◌, ◌<◌, ◌≤◌, ℕ, ◌+◌, Bool, true, List, [], ◌∷◌, ◌++◌, map, drop, get_or, replicate, Option, Some, None, slice_get, refl, sym}
use Rattle.std.proofs.Common.{◌∙◌, ap, subst, inl, inr, eq-eqb}
use Rattle.std.specs.Prelude.{◌==◌}
use Rattle.std.specs.List.{All, Contains, cons_option, filter, filter_map, flat_map, range_with_len}
use Rattle.std.specs.Option.{option_map_or, IsSome}
use Rattle.std.proofs.lemmas.Bool.{cond_both}
use Rattle.std.proofs.lemmas.List.Elements.{All-append, All-cons, All-head, All-tail, All-nil, All-contains, All-replicate, Contains-append_left}
use Rattle.std.proofs.lemmas.List.Elements.{Contains-append_right, Contains-get_or}
use Rattle.sem_key.specs.declared.object.Object.{Object}
use Rattle.sem_key.specs.KeyName.{KeyName, key_eq}
use Rattle.sem_key.specs.Lists.{put, in_turn}
use Rattle.sem_key.specs.Capability.{Capability}
use Rattle.sem_msg.specs.declared.setup.Root.{Root}
use Rattle.sem_msg.specs.declared.setup.VpeDecl.{VpeDecl}
use Rattle.sem_msg.specs.declared.event.Act.{Act}
use Rattle.sem_msg.specs.declared.event.Act.TheVariants.{Call as Calls, Fetch, Handle, Upcall, Resume, Flush, Kill}
use Rattle.sem_msg.specs.declared.event.Event.{Event}
use Rattle.sem_msg.specs.declared.entry.Detail.TheVariants.{Called, Nothing}
use Rattle.sem_msg.specs.declared.entry.Entry.{Entry}
use Rattle.sem_msg.specs.declared.message.Message.{Message}
use Rattle.sem_msg.specs.declared.message.Message.TheVariants.{ObtainOk, Ack}
use Rattle.sem_msg.specs.Rows.{VpeRow, no_vpe}
use Rattle.sem_msg.specs.Setup.{Setup, root_key}
use Rattle.sem_msg.specs.Lookups.{pe_owner}
use Rattle.sem_machine.specs.Sides.{Side, no_side, row, cap, outbox, with_row, cap_added}
use Rattle.sem_machine.specs.Steps.{Step}
use Rattle.sem_msg.specs.VpeRows.{new_vpe, root_held}
use Rattle.sem_machine.specs.Machine.{World, side, link, with_side, with_link, start, start_side, empty_side, root_added, vpe_added, local_step, local_entry}
use Rattle.sem_machine.specs.Machine.{input_of, link_moved, after, entry_of, vpe_fresh}
use Rattle.sem_machine.specs.Schedules.{IsRun, IsSchedule, run, world_after}
use Rattle.sem_machine.specs.Journals.{grants, root_keys_from, root_keys, made, ends}
use Rattle.sem_machine.specs.Living.{way, fetched_from, InFlight}
use Rattle.sem_machine.specs.Safety.{IsInUse}
use Rattle.sem_key.proofs.Members.{Contains-head, Contains-tail, Contains-nil, Contains-cons_cases, Contains-map, found}
use Rattle.sem_key.proofs.KeyTests.{key_eq-true}
use Rattle.sem_safety.proofs.Carrying.{AreFitting, plain-fitting, InCap, InRow, InEndpoints, BringsAll, InSide, InWorld, All-put, All-read, All-drop_one}
use Rattle.sem_safety.proofs.Carrying.{no_vpe-in, no_side-in, row-in, parked-in, endpoint-in, put_row-in, put_endpoints-in, cap_added-in, carried}
use Rattle.sem_machine.proofs.FirstNumbers.{with_row-same, root-next}
use Rattle.sem_safety.proofs.Layers.{Facts, facts, Brings, BringsIn, BringsFrom, Awaits, AsksFor, InEndpoint, InGrant, InCut}
use Rattle.sem_safety.proofs.Onwards.{AnyPlace}
use Rattle.sem_safety.proofs.GoingOn.{AnyVpe, may_act}
use Rattle.sem_safety.proofs.KeptSteps.{MayDraw, Dies, ActGives, IsBlind, blind-act, facts-blind, local_step-keeps}

consed : {Y : Type 0} (o : Option Y) (ys : List Y) (y : Y) → Contains ys y → Contains (cons_option o ys) y
consed None ys y later = later
consed (Some w) ys y later = Contains-tail w ys y later

-- what a function gives of an element is among what it gives of all
pub chosen : {X Y : Type 0} (h : X → Option Y) (xs : List X) (x : X) (y : Y) → Contains xs x → h x ≡ Some y → Contains (filter_map h xs) y
chosen h [] x y among some = absurd (Contains-nil x among)
chosen h (z ∷ zs) x y among some = elim (Contains-cons_cases z zs x among) [
  | inl same ↦ subst (λ o. Contains (cons_option o (filter_map h zs)) y) (sym (ap h same ∙ some)) (Contains-head y (filter_map h zs))
  | inr rest ↦ consed (h z) (filter_map h zs) y (chosen h zs x y rest some)
]

-- the step that an event makes of the side of its kernel
abbrev pub stepped : Setup → World → Event → Step
stepped T W e = local_step T e.kernel (side W e.kernel) e.act (input_of W e.kernel e.act)

module _ (F : Facts) where
  -- Parts of a world.
  pub side-in : (W : World) → InWorld F W → (i : ℕ) → InSide F (side W i)
  side-in W is i = All-read (InSide F) no_side W.sides i (no_side-in F) is.sides

  outbox-in : (s : Side) → InSide F s → (j : ℕ) → BringsAll F (outbox s j)
  outbox-in s is j = All-read (BringsAll F) [] s.outs j (All-nil (Brings F)) is.outs

  link_row-in : (W : World) → InWorld F W → (i : ℕ) → All (BringsAll F) (get_or W.links i [])
  link_row-in W is i = All-read (λ (r : List (List Message)). All (BringsAll F) r) [] W.links i (All-nil (BringsAll F)) is.links

  link-in : (W : World) → InWorld F W → (i j : ℕ) → BringsAll F (link W i j)
  link-in W is i j = All-read (BringsAll F) [] (get_or W.links i []) j (All-nil (Brings F)) (link_row-in W is i)

  with_side-in : (W : World) → InWorld F W → (i : ℕ) (s : Side) → InSide F s → InWorld F (with_side i s W)
  with_side-in W is i s here = record { sides = All-put (InSide F) no_side W.sides i s (no_side-in F) here is.sides; links = is.links }

  with_link-in : (W : World) → InWorld F W → (i j : ℕ) (messages : List Message) → BringsAll F messages → InWorld F (with_link i j messages W)
  with_link-in W is i j messages here = record {
    sides = is.sides;
    links = All-put (λ (r : List (List Message)). All (BringsAll F) r) [] W.links i (put [] (get_or W.links i []) j messages) (All-nil (BringsAll F))
        (All-put (BringsAll F) [] (get_or W.links i []) j messages (All-nil (Brings F)) here (link_row-in W is i)) is.links;
  }

  front-in : (ms : List Message) → BringsAll F ms → BringsIn F (slice_get ms 0)
  front-in [] all = tt
  front-in (m ∷ ms) all = All-head (Brings F) m ms all

  -- A step.
  pub input-in : (W : World) → InWorld F W → (i : ℕ) (act : Act) → BringsIn F (input_of W i act)
  input-in W is i (Fetch j) = front-in (link W j i) (link-in W is j i)
  input-in W is i (Calls v) = tt
  input-in W is i Handle = tt
  input-in W is i (Upcall v) = tt
  input-in W is i (Resume v) = tt
  input-in W is i (Flush to) = tt
  input-in W is i (Kill v) = tt

  flushed-in : (V : World) → InWorld F V → (i j : ℕ) (front : Option Message) → BringsIn F front →
      InWorld F (option_map_or (λ m. with_link i j (link V i j ++ m ∷ []) V) front V)
  flushed-in V is i j None here = is
  flushed-in V is i j (Some m) here =
      with_link-in V is i j (link V i j ++ m ∷ [])
      (All-append (Brings F) (link V i j) (m ∷ []) (link-in V is i j) (All-cons (Brings F) m [] here (All-nil (Brings F))))

  moved-in : (i : ℕ) (s : Side) (act : Act) (V : World) → InSide F s → InWorld F V → InWorld F (link_moved i s act V)
  moved-in i s (Fetch j) V before is = with_link-in V is j i (drop 1 (link V j i)) (All-drop_one (Brings F) (link V j i) (link-in V is j i))
  moved-in i s (Flush j) V before is = flushed-in V is i j (slice_get (outbox s j) 0) (front-in (outbox s j) (outbox-in s before j))
  moved-in i s (Calls v) V before is = is
  moved-in i s Handle V before is = is
  moved-in i s (Upcall v) V before is = is
  moved-in i s (Resume v) V before is = is
  moved-in i s (Kill v) V before is = is

  pub after-in : (D : ℕ → Type 0) (T : Setup) (W : World) (e : Event) → MayDraw D e.act → InWorld F W → AreFitting F → ActGives F T (side W e.kernel) e.act →
      Dies F T (side W e.kernel) e.act → InGrant F (entry_of T W e).grant →
      ((v n : ℕ) → D v → (row (side W e.kernel) v).next_number ≤ n → n < (row (stepped T W e).side v).next_number → F.place v n) →
      InCut F (entry_of T W e).cut → InWorld F (after T W e)
  unfolding after entry_of local_entry
  after-in D T W e may is fitting gives dies grant draws cuts =
      let s : Side = side W e.kernel in
      let x : Step = local_step T e.kernel s e.act (input_of W e.kernel e.act) in
      let before = side-in W is e.kernel in
      let now : InSide F x.side = local_step-keeps F D (InSide F) (carried F fitting) T e.kernel s e.act (input_of W e.kernel e.act) may before gives dies
      (input-in W is e.kernel e.act) (grant, draws, cuts) in
      let moved = moved-in e.kernel s e.act (with_side e.kernel x.side W) before (with_side-in W is e.kernel x.side now) in
      record { sides = moved.sides; links = moved.links }

  -- The start.
  root_added-in : (d : VpeDecl) (r : Root) (s : Side) → InSide F s → F.key (root_key d (row s d.vpe).next_number r) r.object → InSide F (root_added d r s)
  root_added-in d r s is here =
      let k : KeyName = root_key d (row s d.vpe).next_number r in
      let c : Capability = record { key = k; parent = None; children = []; mark = None; selector = r.sel; object = r.object } in
      put_row-in F (cap_added c s) (cap_added-in F s is c here refl refl) d.vpe (root_held d r (row s d.vpe)) (row-in F s is d.vpe)

  roots-in : (d : VpeDecl) (rs : List Root) (n : ℕ) (s : Side) → InSide F s → (row s d.vpe).next_number ≡ n →
      ((k : KeyName) → Contains (root_keys_from d n rs) k → (o : Object) → F.key k o) → InSide F (in_turn (root_added d) rs s)
  unfolding in_turn root_keys_from
  roots-in d [] n s is number each = is
  roots-in d (r ∷ rs) n s is number each =
      roots-in d rs (n + 1) (root_added d r s)
      (root_added-in d r s is
      (subst (λ m. F.key (root_key d m r) r.object) (sym number)
      (each (root_key d n r) (Contains-head (root_key d n r) (root_keys_from d (n + 1) rs)) r.object)))
      (root-next d r s ∙ ap (λ m. m + 1) number)
      (λ k among. each k (Contains-tail (root_key d n r) (root_keys_from d (n + 1) rs) k among))

  vpe_added-in : (d : VpeDecl) (s : Side) → InSide F s → ((k : KeyName) → Contains (root_keys_from d 0 d.roots) k → (o : Object) → F.key k o) →
      InSide F (vpe_added d s)
  vpe_added-in d s is each =
      roots-in d d.roots 0 (vpe_fresh d s) (put_endpoints-in F (with_row d.vpe (λ v. new_vpe) s) (put_row-in F s is d.vpe new_vpe (All-nil (AsksFor F))) d.vpe
      (replicate 16 None) (All-replicate (InEndpoint F) 16 None tt)) (ap (λ (x : VpeRow). x.next_number) (with_row-same d.vpe (λ v. new_vpe) s)) each

  vpes-in : (p : VpeDecl → Bool) (ds : List VpeDecl) (s : Side) → InSide F s → ((k : KeyName) → Contains (flat_map (λ d. root_keys_from d 0 d.roots) ds) k →
      (o : Object) → F.key k o) → InSide F (in_turn vpe_added (filter p ds) s)
  unfolding in_turn
  vpes-in p [] s is each = is
  vpes-in p (d ∷ ds) s is each =
      let rest = λ (t : Side) (here : InSide F t). vpes-in p ds t here
      (λ k among. each k (Contains-append_right (root_keys_from d 0 d.roots) (flat_map (λ d. root_keys_from d 0 d.roots) ds) k among)) in
      cond_both (p d) (d ∷ filter p ds) (filter p ds) (λ xs. InSide F (in_turn vpe_added xs s))
      (λ _. rest (vpe_added d s)
      (vpe_added-in d s is (λ k among. each k (Contains-append_left (root_keys_from d 0 d.roots) (flat_map (λ d. root_keys_from d 0 d.roots) ds) k among))))
      (λ _. rest s is)

  side_started-in : (T : Setup) (i : ℕ) → ((k : KeyName) → Contains (root_keys T) k → (o : Object) → F.key k o) → InSide F (start_side T i)
  unfolding start_side
  side_started-in T i each = vpes-in (λ d. pe_owner T d.pe == i) T.vpes (empty_side T) (record {
    caps = All-nil (InCap F);
    rows = All-replicate (InRow F) 128 no_vpe (no_vpe-in F);
    parks = All-replicate (Awaits F) 128 None tt;
    endpoints = All-replicate (InEndpoints F) 128 [] (All-nil (InEndpoint F));
    inbox = tt;
    outs = All-replicate (BringsAll F) T.kernels [] (All-nil (Brings F));
    pendings = All-nil F.pends;
  }) each

  pub start-in : (T : Setup) → ((k : KeyName) → Contains (root_keys T) k → (o : Object) → F.key k o) → InWorld F (start T)
  unfolding start
  start-in T each = record {
    sides = sides_of (range_with_len 0 T.kernels);
    links = All-replicate (λ (r : List (List Message)). All (BringsAll F) r) T.kernels (replicate T.kernels [])
        (All-replicate (BringsAll F) T.kernels [] (All-nil (Brings F)));
  }
    where
      sides_of : (is : List ℕ) → All (InSide F) (map (start_side T) is)
      sides_of [] = All-nil (InSide F)
      sides_of (i ∷ is) = All-cons (InSide F) (start_side T i) (map (start_side T) is) (side_started-in T i each) (sides_of is)

  inbox-in : (from : ℕ) (inbox : Option (ℕ × Message)) → BringsFrom F inbox → BringsAll F (fetched_from from inbox)
  inbox-in from None here = All-nil (Brings F)
  inbox-in from (Some m) here = cond_both (m.0 == from) (m.1 ∷ []) [] (BringsAll F) (λ _. All-cons (Brings F) m.1 [] here (All-nil (Brings F)))
      (λ _. All-nil (Brings F))

  pub flight-in : (W : World) → InWorld F W → (m : Message) → InFlight W m → Brings F m
  flight-in W is m (i, j, among) =
      All-contains (Brings F) (way W i j) m
      (All-append (Brings F) (fetched_from i (side W j).inbox ++ link W i j) (outbox (side W i) j)
      (All-append (Brings F) (fetched_from i (side W j).inbox) (link W i j) (inbox-in i (side W j).inbox (side-in W is j).inbox) (link-in W is i j))
      (outbox-in (side W i) (side-in W is i) j))
      among

-- What is in use is carried, where nothing is asked of objects.
module _ (Q : KeyName → Type 0) (R : ℕ → ℕ → Type 0) where
  held-in : (W : World) → InWorld (facts Q R) W → (k : KeyName) (i : ℕ) (o : Option Capability) → cap (side W i) k ≡ o → IsSome o → Q k
  held-in W is k i None none some = absurd cc
  held-in W is k i (Some c) there some = subst Q (key_eq-true c.key k (found (λ x. key_eq x.key k) (side W i).caps c there).1)
      (All-contains (InCap (facts Q R)) (side W i).caps c (side-in (facts Q R) W is i).caps (found (λ x. key_eq x.key k) (side W i).caps c there).0).key

  pub used-in : (W : World) → InWorld (facts Q R) W → (k : KeyName) → IsInUse W k → Q k
  used-in W is k (inl (inl (i, some))) = held-in W is k i (cap (side W i) k) refl some
  used-in W is k (inl (inr (inl granted))) = flight-in (facts Q R) W is (ObtainOk granted.parent k granted.object) granted.arriving
  used-in W is k (inl (inr (inr (inl acknowledged)))) = flight-in (facts Q R) W is (Ack k true) acknowledged
  used-in W is k (inl (inr (inr (inr installing)))) =
      subst (Awaits (facts Q R)) installing.ready (parked-in (facts Q R) (side W installing.kernel) (side-in (facts Q R) W is installing.kernel) installing.vpe)
  used-in W is k (inr (v, n, binds)) =
      subst Q binds.to_key
      (subst (InEndpoint (facts Q R)) binds.at_endpoint (endpoint-in (facts Q R) (side W binds.kernel) (side-in (facts Q R) W is binds.kernel) v n))

-- A run.

-- of the keys of the VPEs that end by an entry
abbrev pub Ends : Facts → Entry → Type 0
Ends F e = (v : ℕ) → ends v e.event.act e.detail ≡ true → (k : KeyName) → k.vpe ≡ v → F.doomed k

-- what an entry tells has the facts: the grant, the key that is cut, and the keys of a VPE that ends
pub record IsFit (F : Facts) (e : Entry) : Type 0 where
  pub granted : InGrant F e.grant
  pub cut_so : InCut F e.cut
  pub ended_so : Ends F e

pub entry-dies : (F : Facts) (T : Setup) (W : World) (e : Event) → Ends F (entry_of T W e) → Dies F T (side W e.kernel) e.act
unfolding entry_of local_entry
entry-dies F T W e fit = by_act e.act fit
  where
    by_act : (a : Act) → Ends F (local_entry T e.kernel (side W e.kernel) a (input_of W e.kernel a)) → Dies F T (side W e.kernel) a
    by_act (Calls v) fit =
        λ exits k same. fit v (subst (λ o. ends v (Calls v) (option_map_or (λ call. Called (row (side W e.kernel) v).next_call call) o Nothing) ≡ true)
        (sym exits) (eq-eqb v v refl)) k same
    by_act (Upcall v) fit = tt
    by_act (Fetch j) fit = tt
    by_act Handle fit = tt
    by_act (Resume v) fit = tt
    by_act (Flush j) fit = tt
    by_act (Kill v) fit = λ k same. fit v (eq-eqb v v refl) k same

-- a run keeps the facts, where nothing is asked of places and objects
pub run-in : (F : Facts) → IsBlind F → ((v n : ℕ) → F.place v n) → AreFitting F → (T : Setup) (J : List Entry) (W : World) → IsRun T W J → InWorld F W →
    All (IsFit F) J → InWorld F (run T W J)
unfolding IsRun
run-in F blind anywhere fitting T [] W runs is fits = is
run-in F blind anywhere fitting T (e ∷ es) W (allowed, made, rest) is fits =
    let fit : IsFit F (entry_of T W e.event) = subst (IsFit F) made (All-head (IsFit F) e es fits) in
    run-in F blind anywhere fitting T es (after T W e.event) rest
    (after-in F AnyVpe T W e.event (may_act e.event.act) is fitting (blind-act F blind T (side W e.event.kernel) e.event.act)
    (entry-dies F T W e.event fit.ended_so) fit.granted (λ v n may low below. anywhere v n) fit.cut_so) (All-tail (IsFit F) e es fits)

-- an entry of the journal, by what it grants
pub each-entry : (P : Entry → Type 0) (J : List Entry) → ((e : Entry) → Contains J e → P e) → All P J
each-entry P J each = λ i d within. each (get_or J i d) (Contains-get_or J i d within)

pub among-grants : (J : List Entry) (e : Entry) (g : KeyName × KeyName) → Contains J e → e.grant ≡ Some g → Contains (grants J) g
among-grants J e g among granted = chosen (λ (x : Entry). x.grant) J e g among granted

-- The keys that were made, and nothing else.

pub any_grant_of : (Q : KeyName → Type 0) (o : Option (KeyName × KeyName)) → ((g : KeyName × KeyName) → o ≡ Some g → Q g.1) → InGrant (facts Q AnyPlace) o
any_grant_of Q None each = tt
any_grant_of Q (Some g) each = (each g refl, tt)

any_cut_of : (Q : KeyName → Type 0) (o : Option KeyName) → InCut (facts Q AnyPlace) o
any_cut_of Q None = tt
any_cut_of Q (Some k) = tt

pub world_after-in : (T : Setup) (J : List Entry) → IsSchedule T J → InWorld (facts (Contains (made T J)) AnyPlace) (world_after T J)
world_after-in T J runs =
    let Q : KeyName → Type 0 = Contains (made T J) in
    let children : List KeyName = map (λ (g : KeyName × KeyName). g.1) (grants J) in
    run-in (facts Q AnyPlace) (facts-blind Q AnyPlace (λ p k. Unit {0}) (λ k. Unit {0})) (λ v n. tt)
    (plain-fitting Q AnyPlace (λ p k. Unit {0}) (λ k. Unit {0}) (λ p k linked doomed. tt)) T J (start T) runs
    (start-in (facts Q AnyPlace) T (λ k root o. Contains-append_left (root_keys T) children k root))
    (each-entry (IsFit (facts Q AnyPlace)) J (λ e among. record {
      granted = any_grant_of Q e.grant
          (λ g granted. Contains-append_right (root_keys T) children g.1
          (Contains-map (λ (g : KeyName × KeyName). g.1) (grants J) g (among-grants J e g among granted)));
      cut_so = any_cut_of Q e.cut;
      ended_so = λ v over k same. tt;
    }))

pub used-made : (T : Setup) (J : List Entry) → IsSchedule T J → (k : KeyName) → IsInUse (world_after T J) k → Contains (made T J) k
used-made T J runs = used-in (Contains (made T J)) AnyPlace (world_after T J) (world_after-in T J runs)
