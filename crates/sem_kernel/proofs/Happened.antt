-- What an event does to kernels and their fabric, and the event of the world that they are.
use Rattle.std.proofs.Common.{◌≡◌, ℕ, ◌+◌, ◌<◌, ◌≤◌, ◌&&◌, Bool, true, false, List, [], ◌∷◌, ◌++◌, length, map, set, get_or, Option, Some, None, is_some}
use Rattle.std.proofs.Common.{slice_get, Result, Ok, Err, refl, sym, ◌∙◌, ap, subst, inl, inr, arith, length-set, get_or-set_same, get_or-set_other}
use Rattle.std.specs.Prelude.{nat_lt, IfOk, OnOk, OnErr}
use Rattle.std.specs.Option.{option_map, option_map_or}
use Rattle.std.proofs.lemmas.Bool.{cases_eq, and_parts, lt-ltb, le-ltb, ltb-true}
use Rattle.std.proofs.lemmas.List.{get_or-map, map-set, length-map}
use Rattle.std.proofs.Math.Seq.{map-set_same}
use Rattle.sem_key.specs.Lists.{put}
use Rattle.sem_key.proofs.Puts.{put-set}
use Rattle.sem_msg.specs.declared.event.Act.{Act}
use Rattle.sem_msg.specs.declared.event.Act.TheVariants.{Call as Calls, Fetch, Handle, Upcall, Resume, Flush, Kill}
use Rattle.sem_msg.specs.declared.event.Event.{Event}
use Rattle.sem_msg.specs.declared.entry.Entry.{Entry}
use Rattle.sem_msg.specs.declared.message.Message.{Message}
use Rattle.sem_msg.specs.Setup.{Setup, IsSetup}
use Rattle.sem_msg.specs.Journal.{replies}
use Rattle.sem_msg.specs.Fabric.{FabricValue, link_in, link_put, relinked}
use Rattle.sem_fabric.proofs.Entries.{counts, replies-more}
use Rattle.sem_machine.specs.Sides.{Side, no_side, outbox}
use Rattle.sem_machine.specs.Steps.{Step}
use Rattle.sem_machine.specs.Sound.{IsSound}
use Rattle.sem_machine.specs.Machine.{World, side, is_locally_enabled, is_allowed, is_enabled, local_step, local_entry, link_moved, input_of, reply_counted}
use Rattle.sem_machine.specs.Machine.{after, entry_of, replied_vpe}
use Rattle.sem_kernel.specs.KernelValue.{KernelValue, is_timely}
use Rattle.sem_kernel.specs.Worlds.{world_of, IsKernelOf, IsFabricOf, AreKernelsOf, is_passable, taken, fabric_moved, can_do, CanDo, HasDone, HasReplied, HasNotDone}

-- With a fabric, whatever the kernels are.

pub and-true : (b : Bool) → (b && true) ≡ b
and-true true = refl
and-true false = refl

-- what the kernel and the links allow is what the world allows
module _ (T : Setup) (i : ℕ) (s : Side) (ks : List KernelValue) (f : FabricValue) (same : f.window ≡ T.window) where
  allowed-is : (act : Act) → ((is_locally_enabled T i s act && is_timely T (length (replies f.journal)) act) && is_passable f i act)
      ≡ (is_locally_enabled T i s act && is_allowed T (world_of ks f) i act)
  allowed-is (Calls v) = and-true (is_locally_enabled T i s (Calls v) && true)
  allowed-is (Resume v) = and-true (is_locally_enabled T i s (Resume v) && true)
  allowed-is (Upcall v) = and-true (is_locally_enabled T i s (Upcall v) && true)
  allowed-is Handle = and-true (is_locally_enabled T i s Handle && true)
  allowed-is (Fetch j) = ap (λ b. b && is_passable f i (Fetch j)) (and-true (is_locally_enabled T i s (Fetch j)))
  allowed-is (Flush j) =
      ap (λ b. b && is_passable f i (Flush j)) (and-true (is_locally_enabled T i s (Flush j)))
      ∙ ap (λ n. is_locally_enabled T i s (Flush j) && nat_lt (length (link_in f.links i j)) n) same
  allowed-is (Kill v) = and-true (is_locally_enabled T i s (Kill v) && is_timely T (length (replies f.journal)) (Kill v))

-- what the fabric gives is what the world gives
input-is : (ks : List KernelValue) (f : FabricValue) (i : ℕ) (act : Act) → taken f i act ≡ input_of (world_of ks f) i act
input-is ks f i (Calls v) = refl
input-is ks f i (Resume v) = refl
input-is ks f i (Upcall v) = refl
input-is ks f i Handle = refl
input-is ks f i (Fetch j) = refl
input-is ks f i (Flush j) = refl
input-is ks f i (Kill v) = refl

-- the links are moved as in the world
moved-is : (f : FabricValue) (i : ℕ) (s : Side) (sides : List Side) (n : ℕ) (act : Act) →
    ◌≡◌ {A = World} (link_moved i s act (record { sides = sides; links = f.links; replies = n })) (record {
      sides = sides;
      links = (fabric_moved i s act f).links;
      replies = n;
    })
moved-is f i s sides n (Calls v) = refl
moved-is f i s sides n (Resume v) = refl
moved-is f i s sides n (Upcall v) = refl
moved-is f i s sides n Handle = refl
moved-is f i s sides n (Fetch j) = refl
moved-is f i s sides n (Flush j) = from (slice_get (outbox s j) 0)
  where
    from : (o : Option Message) →
        ◌≡◌ {A = World} (option_map_or (λ m. record { sides = sides; links = link_put i j (link_in f.links i j ++ m ∷ []) f.links; replies = n }) o
        (record { sides = sides; links = f.links; replies = n }))
        (record { sides = sides; links = (option_map_or (λ m. relinked i j (link_in f.links i j ++ m ∷ []) f) o f).links; replies = n })
    from None = refl
    from (Some m) = refl
moved-is f i s sides n (Kill v) = refl

-- a reply counts once
counted-is : {Y : Type 0} (g : ℕ → Y) (o : Option ℕ) (n : ℕ) → n + counts (is_some (option_map g o)) ≡ option_map_or (λ code. n + 1) o n
counted-is g None n = omega arith
counted-is g (Some code) n = refl

-- an enabled event is of a kernel of the setup
pub enabled-few : (T : Setup) (W : World) (e : Event) → is_enabled T W e ≡ true → e.kernel < T.kernels
unfolding is_enabled
enabled-few T W e enabled =
    ltb-true e.kernel T.kernels (and_parts (nat_lt e.kernel T.kernels) (is_locally_enabled T e.kernel (side W e.kernel) e.act
    && is_allowed T W e.kernel e.act) enabled).0

pub enabled-nowhere : (T : Setup) (W : World) (e : Event) → T.kernels ≤ e.kernel → nat_lt e.kernel T.kernels ≡ is_enabled T W e
unfolding is_enabled
enabled-nowhere T W e over =
    let none : nat_lt e.kernel T.kernels ≡ false = le-ltb e.kernel T.kernels over in
    none ∙ sym (ap (λ b. b && (is_locally_enabled T e.kernel (side W e.kernel) e.act && is_allowed T W e.kernel e.act)) none)

-- The kernels together.

module _ (T : Setup) (ks : List KernelValue) (f : FabricValue) (are : AreKernelsOf T ks f) (i : ℕ) (few : i < T.kernels) (k : KernelValue) (at : k
    ≡ get_or ks i k) where
  abbrev W : World
  W = world_of ks f

  within : i < length ks
  within = let many = are.many in omega (arith, few, many)

  is : IsKernelOf T i k
  is = subst (IsKernelOf T i) (sym at) (are.each i k few)

  side-at : k.side ≡ side W i
  side-at = sym (get_or-map (λ (x : KernelValue). x.side) ks i k no_side within ∙ ap (λ (x : KernelValue). x.side) (sym at))

  -- what is said of the kernel is said of its place in the world
  here : {Y : Type 0} (g : Setup → ℕ → Side → Y) → g k.setup k.id k.side ≡ g T i (side W i)
  here g = λ j. g (is.setup j) (is.id j) (side-at j)

  pub few-here : k.id < k.setup.kernels
  few-here = let same = ap (λ (S : Setup). S.kernels) is.setup in let own = is.id in omega (arith, few, same, own)

  pub fabric-here : IsFabricOf k.setup f
  fabric-here = subst (λ S. IsFabricOf S f) (sym is.setup) are.fabric

  -- the kernel can do the act where the world allows it
  pub can-is : (act : Act) → can_do k f act ≡ (is_locally_enabled T i (side W i) act && is_allowed T W i act)
  can-is act =
      here (λ S j s. (is_locally_enabled S j s act && is_timely S (length (replies f.journal)) act) && is_passable f j act)
      ∙ allowed-is T i (side W i) ks f are.fabric.window act

  pub enabled-here : (act : Act) → can_do k f act ≡ is_enabled T W (record { kernel = i; act = act })
  unfolding is_enabled
  enabled-here act = can-is act ∙ sym (ap (λ b. b && (is_locally_enabled T i (side W i) act && is_allowed T W i act)) (lt-ltb i T.kernels few))

  -- an enabled event can be done
  pub can-do : IsSetup T → (act : Act) → is_enabled T W (record { kernel = i; act = act }) ≡ true → CanDo k f act
  unfolding is_enabled
  can-do valid act enabled =
      let can : can_do k f act ≡ true = can-is act
      ∙ (and_parts (nat_lt i T.kernels) (is_locally_enabled T i (side W i) act && is_allowed T W i act) enabled).1 in
      let parts = and_parts (is_locally_enabled k.setup k.id k.side act && is_timely k.setup (length (replies f.journal)) act) (is_passable f k.id act) can in
      record {
        able = record {
          setup = subst IsSetup (sym is.setup) valid;
          few = few-here;
          sound = subst (λ S. IsSound S k.id k.side) (sym is.setup) (subst (λ j. IsSound T j k.side) (sym is.id) is.sound);
          fabric = fabric-here;
          enabled = (and_parts (is_locally_enabled k.setup k.id k.side act) (is_timely k.setup (length (replies f.journal)) act) parts.0).0;
        };
        passes = parts.1;
      }

  -- with another kernel of that number in its place they are still together
  module _ (l : KernelValue) (g : FabricValue) (setup : l.setup ≡ k.setup) (id : l.id ≡ k.id) (sound : IsSound k.setup k.id l.side)
      (fabric : IsFabricOf k.setup g) where
    new-is : IsKernelOf T i l
    new-is = record {
      setup = setup ∙ is.setup;
      id = id ∙ is.id;
      sound = subst (λ S. IsSound S i l.side) is.setup (subst (λ j. IsSound k.setup j l.side) is.id sound);
    }

    together : AreKernelsOf T (set ks i l) g
    together = record {
      many = length-set ks i l ∙ are.many;
      each = λ j d lt. elim (cases_eq j i) [
        | inl same ↦ subst (λ n. IsKernelOf T n (get_or (set ks i l) n d)) (sym same) (subst (IsKernelOf T i) (sym (get_or-set_same ks i l d within)) new-is)
        | inr other ↦ subst (IsKernelOf T j) (sym (get_or-set_other ks i j l d other)) (are.each j d lt)
      ];
      fabric = subst (λ S. IsFabricOf S g) is.setup fabric;
    }

  -- nothing was done
  module _ (l : KernelValue) (g : FabricValue) (none : HasNotDone k f l g) where
    pub not_done-together : AreKernelsOf T (set ks i l) g
    not_done-together = together l g (ap (λ (x : KernelValue). x.setup) none.kernel) (ap (λ (x : KernelValue). x.id) none.kernel)
        (subst (IsSound k.setup k.id) (sym (ap (λ (x : KernelValue). x.side) none.kernel))
        (subst (λ S. IsSound S k.id k.side) (sym is.setup) (subst (λ j. IsSound T j k.side) (sym is.id) is.sound)))
        (subst (IsFabricOf k.setup) (sym none.fabric) fabric-here)

    pub not_done-world : world_of (set ks i l) g ≡ world_of ks f
    not_done-world =
        let same : map (λ (x : KernelValue). x.side) (set ks i l) ≡ map (λ (x : KernelValue). x.side) ks =
        map-set_same (λ (x : KernelValue). x.side) ks i l k (ap (λ (x : KernelValue). x.side) (none.kernel) ∙ ap (λ (x : KernelValue). x.side) at) in
        λ j. record { sides = same j; links = (none.fabric j).links; replies = length (replies (none.fabric j).journal) }

  -- the act was done
  module _ (act : Act) (l : KernelValue) (g : FabricValue) (e : Entry) (done : HasDone k f act l g e) where
    abbrev event : Event
    event = record { kernel = i; act = act }

    abbrev x : Step
    x = local_step T i (side W i) act (input_of W i act)

    pub done-together : AreKernelsOf T (set ks i l) g
    done-together = together l g (ap (λ (y : KernelValue). y.setup) done.kernel) (ap (λ (y : KernelValue). y.id) done.kernel) done.sound done.fabric

    pub done-entry : e ≡ entry_of T W event
    unfolding entry_of
    done-entry =
        done.entry
        ∙ (here (λ S j s. local_entry S j s act (taken f j act))
        ∙ ap (local_entry T i (side W i) act) (input-is ks f i act))

    new-side : l.side ≡ x.side
    new-side =
        ap (λ (y : KernelValue). y.side) done.kernel
        ∙ (here (λ S j s. (local_step S j s act (taken f j act)).side)
        ∙ ap (λ input. (local_step T i (side W i) act input).side) (input-is ks f i act))

    new-sides : map (λ (y : KernelValue). y.side) (set ks i l) ≡ put no_side W.sides i x.side
    new-sides =
        map-set (λ (y : KernelValue). y.side) ks i l
        ∙ (ap (set W.sides i) new-side
        ∙ sym (put-set no_side W.sides i x.side (let long = length-map ks (λ (y : KernelValue). y.side) in let lt = within in omega (arith, lt, long))))

    new-links : g.links ≡ (fabric_moved i (side W i) act f).links
    new-links = done.links ∙ here (λ S j s. (fabric_moved j s act f).links)

    new-replies : length (replies g.journal) ≡ option_map_or (λ code. W.replies + 1) x.outcome.reply W.replies
    unfolding entry_of local_entry
    new-replies =
        ap (λ J. length (replies J)) done.journal
        ∙ (replies-more f.journal e
        ∙ (ap (λ (y : Entry). W.replies + counts (is_some y.reply)) done-entry
        ∙ counted-is (λ code. record { vpe = replied_vpe act; code = code }) x.outcome.reply W.replies))

    pub done-after : world_of (set ks i l) g ≡ after T W event
    unfolding after
    done-after =
        (λ j. record { sides = new-sides j; links = new-links j; replies = new-replies j })
        ∙ sym (ap (reply_counted x.outcome) (moved-is f i (side W i) (put no_side W.sides i x.side) W.replies act))

  -- it was done or it was not
  pub stepped-together : {E : Type 0} (act : Act) (l : KernelValue) (g : FabricValue) (r : Result Bool E) → IfOk r (HasReplied k f act l g) →
      OnErr r (HasNotDone k f l g) → AreKernelsOf T (set ks i l) g
  stepped-together act l g (Ok b) ok err = done-together act l g ok.entry ok.done
  stepped-together act l g (Err x) ok err = not_done-together l g err

  pub stepped-replied : {E : Type 0} (act : Act) (l : KernelValue) (g : FabricValue) (r : Result Bool E) → IfOk r (HasReplied k f act l g) →
      IfOk r (λ b. b ≡ is_some (entry_of T W (record { kernel = i; act = act })).reply)
  stepped-replied act l g (Ok b) ok = ok.told ∙ ap (λ (e : Entry). is_some e.reply) (done-entry act l g ok.entry ok.done)
  stepped-replied act l g (Err x) ok = tt

  pub stepped-after : {E : Type 0} (act : Act) (l : KernelValue) (g : FabricValue) (r : Result Bool E) → IfOk r (HasReplied k f act l g) →
      OnOk r (world_of (set ks i l) g ≡ after T W (record { kernel = i; act = act }))
  stepped-after act l g (Ok b) ok = done-after act l g ok.entry ok.done
  stepped-after act l g (Err x) ok = tt

  pub stepped-journal : {E : Type 0} (act : Act) (l : KernelValue) (g : FabricValue) (r : Result Bool E) → IfOk r (HasReplied k f act l g) →
      OnOk r (g.journal ≡ f.journal ++ entry_of T W (record { kernel = i; act = act }) ∷ [])
  stepped-journal act l g (Ok b) ok = ok.done.journal ∙ ap (λ e. f.journal ++ e ∷ []) (done-entry act l g ok.entry ok.done)
  stepped-journal act l g (Err x) ok = tt

  pub stepped-same_journal : {E : Type 0} (l : KernelValue) (g : FabricValue) (r : Result Bool E) → OnErr r (HasNotDone k f l g) →
      OnErr r (g.journal ≡ f.journal)
  stepped-same_journal l g (Ok b) err = tt
  stepped-same_journal l g (Err x) err = ap (λ (h : FabricValue). h.journal) err.fabric

  pub stepped-unchanged : {E : Type 0} (l : KernelValue) (g : FabricValue) (r : Result Bool E) → OnErr r (HasNotDone k f l g) →
      OnErr r (world_of (set ks i l) g ≡ world_of ks f)
  stepped-unchanged l g (Ok b) err = tt
  stepped-unchanged l g (Err x) err = not_done-world l g err

-- what is so is so after an error
pub on-err : {X E P : Type 0} (r : Result X E) → P → OnErr r P
on-err (Ok x) so = tt
on-err (Err e) so = so
