-- How a kernel does an act with a fabric.
use Rattle.std.proofs.Common.{◌≡◌, ℕ, ◌<◌, Bool, true, false, [], ◌∷◌, ◌++◌, Option, Some, None, slice_get, refl, sym, ◌∙◌, ap, subst, arith, get_or-set_other}
use Rattle.std.specs.Prelude.{slice_index_or}
use Rattle.std.specs.Option.{option_map_or}
use Rattle.sem_msg.specs.declared.event.Act.{Act}
use Rattle.sem_msg.specs.declared.event.Act.TheVariants.{Call as Calls, Fetch, Handle, Upcall, Resume, Flush, Kill}
use Rattle.sem_msg.specs.declared.entry.Entry.{Entry}
use Rattle.sem_msg.specs.declared.message.Message.{Message}
use Rattle.sem_msg.specs.Fabric.{FabricValue, link_in, relinked, entered}
use Rattle.sem_fabric.specs.Fabrics.{placed}
use Rattle.sem_machine.specs.Sides.{Side, outbox}
use Rattle.sem_machine.specs.Sound.{IsSound}
use Rattle.sem_machine.specs.Machine.{local_step, local_entry}
use Rattle.sem_sound.proofs.Stepping.{step-sound}
use Rattle.sem_kernel.specs.KernelValue.{KernelValue, IsInput}
use Rattle.sem_kernel.specs.Worlds.{is_passable, taken, fabric_moved, CanAct, CanDo, CanTry, HasDone, HasReplied}
use Rattle.sem_kernel.proofs.Entries.{sound-input}
use Rattle.sem_kernel.proofs.Peers.{able-below}

-- whether kernel i has a place in the journal
abbrev pub has_place : FabricValue → ℕ → Bool
has_place f i = slice_index_or f.places i false

-- a place in the journal changes nothing of what is taken
taken-placed : (n : ℕ) (f : FabricValue) (i : ℕ) (act : Act) → taken (placed n f) i act ≡ taken f i act
taken-placed n f i (Calls v) = refl
taken-placed n f i (Resume v) = refl
taken-placed n f i (Upcall v) = refl
taken-placed n f i Handle = refl
taken-placed n f i (Fetch j) = refl
taken-placed n f i (Flush j) = refl
taken-placed n f i (Kill v) = refl

passable-placed : (n : ℕ) (f : FabricValue) (i : ℕ) (act : Act) → is_passable (placed n f) i act ≡ is_passable f i act
passable-placed n f i (Calls v) = refl
passable-placed n f i (Resume v) = refl
passable-placed n f i (Upcall v) = refl
passable-placed n f i Handle = refl
passable-placed n f i (Fetch j) = refl
passable-placed n f i (Flush j) = refl
passable-placed n f i (Kill v) = refl

-- only links are changed, and by what was in them
carried-rest : (i : ℕ) (s : Side) (act : Act) (f : FabricValue) → fabric_moved i s act f ≡ record f { links = (fabric_moved i s act f).links }
carried-rest i s (Calls v) f = refl
carried-rest i s (Resume v) f = refl
carried-rest i s (Upcall v) f = refl
carried-rest i s Handle f = refl
carried-rest i s (Fetch j) f = refl
carried-rest i s (Flush j) f = from (slice_get (outbox s j) 0)
  where
    from : (o : Option Message) → option_map_or (λ m. relinked i j (link_in f.links i j ++ m ∷ []) f) o f
        ≡ record f { links = (option_map_or (λ m. relinked i j (link_in f.links i j ++ m ∷ []) f) o f).links }
    from None = refl
    from (Some m) = refl
carried-rest i s (Kill v) f = refl

carried-placed : (n : ℕ) (i : ℕ) (s : Side) (act : Act) (f : FabricValue) → (fabric_moved i s act (placed n f)).links ≡ (fabric_moved i s act f).links
carried-placed n i s (Calls v) f = refl
carried-placed n i s (Resume v) f = refl
carried-placed n i s (Upcall v) f = refl
carried-placed n i s Handle f = refl
carried-placed n i s (Fetch j) f = refl
carried-placed n i s (Flush j) f = from (slice_get (outbox s j) 0)
  where
    from : (o : Option Message) → (option_map_or (λ m. relinked i j (link_in f.links i j ++ m ∷ []) (placed n f)) o (placed n f)).links
        ≡ (option_map_or (λ m. relinked i j (link_in f.links i j ++ m ∷ []) f) o f).links
    from None = refl
    from (Some m) = refl
carried-placed n i s (Kill v) f = refl

-- The kernel k takes the input, and makes the entry e; the fabric f becomes q by what is carried.
module _ (k : KernelValue) (f : FabricValue) (act : Act) (can : CanTry k f act) (input : Option Message) (took : input ≡ taken f k.id act) (q : FabricValue)
    (moved : q ≡ fabric_moved k.id k.side act f) (e : Entry) (made : e ≡ local_entry k.setup k.id k.side act input) where
  made-kernel : e.event.kernel ≡ k.id
  unfolding local_entry
  made-kernel = ap (λ (x : Entry). x.event.kernel) made

  moved-rest : q ≡ record f { links = q.links }
  moved-rest = moved ∙ (carried-rest k.id k.side act f ∙ ap (λ (x : FabricValue). record f { links = x.links }) (sym moved))

  -- the entry is of a kernel of the fabric
  pub made-few : e.event.kernel < q.kernels
  made-few =
      let below = able-below k f act can.able in
      let own = made-kernel in
      let kernels = ap (λ (x : FabricValue). x.kernels) moved-rest in
      omega (arith, below, own, kernels)

  -- and that has a place
  pub made-place : has_place q e.event.kernel ≡ true
  made-place = ap (λ (x : FabricValue). has_place x e.event.kernel) moved-rest ∙ (ap (has_place f) made-kernel ∙ can.place)

  -- so the act is done
  pub all-done : IsInput act input → (l : KernelValue) → l ≡ record k { side = (local_step k.setup k.id k.side act input).side; ready = None } →
      (g : FabricValue) → g ≡ entered e q → HasDone k f act l g e
  all-done is_input l stepped g entered_is =
      let kernel : l ≡ record k { side = (local_step k.setup k.id k.side act (taken f k.id act)).side; ready = None } =
      stepped ∙ ap (λ o. record k { side = (local_step k.setup k.id k.side act o).side; ready = None }) took in
      record {
        input = subst (IsInput act) took is_input;
        entry = made ∙ ap (local_entry k.setup k.id k.side act) took;
        kernel = kernel;
        sound = subst (IsSound k.setup k.id) (sym (ap (λ (x : KernelValue). x.side) kernel))
            (step-sound k.setup can.able.setup k.id can.able.few k.side can.able.sound act can.able.enabled (taken f k.id act)
            (sound-input act (taken f k.id act) (subst (IsInput act) took is_input))).0;
        links = ap (λ (x : FabricValue). x.links) entered_is ∙ ap (λ (x : FabricValue). x.links) moved;
        journal = ap (λ (x : FabricValue). x.journal) entered_is ∙ ap (λ (x : FabricValue). x.journal ++ e ∷ []) moved-rest;
        fabric = record {
          kernels = ap (λ (x : FabricValue). x.kernels) entered_is ∙ (ap (λ (x : FabricValue). x.kernels) moved-rest ∙ can.able.fabric.kernels);
          window = ap (λ (x : FabricValue). x.window) entered_is ∙ (ap (λ (x : FabricValue). x.window) moved-rest ∙ can.able.fabric.window);
          kills = ap (λ (x : FabricValue). x.kills) entered_is ∙ (ap (λ (x : FabricValue). x.kills) moved-rest ∙ can.able.fabric.kills);
        };
        others = λ j apart. ap (λ (x : FabricValue). has_place x j) entered_is
            ∙ (get_or-set_other q.places e.event.kernel j false false (λ same. apart (same ∙ made-kernel))
            ∙ ap (λ (x : FabricValue). has_place x j) moved-rest);
      }

-- what is done with a place more is done
pub done-placed : (k : KernelValue) (f : FabricValue) (act : Act) (n : ℕ) → n ≡ k.id → (l : KernelValue) (g : FabricValue) (e : Entry) →
    HasDone k (placed n f) act l g e → HasDone k f act l g e
done-placed k f act n numbered l g e done = record {
  input = subst (IsInput act) (taken-placed n f k.id act) done.input;
  entry = done.entry ∙ ap (local_entry k.setup k.id k.side act) (taken-placed n f k.id act);
  kernel = done.kernel ∙ ap (λ o. record k { side = (local_step k.setup k.id k.side act o).side; ready = None }) (taken-placed n f k.id act);
  sound = done.sound;
  links = done.links ∙ carried-placed n k.id k.side act f;
  journal = done.journal;
  fabric = done.fabric;
  others = λ j apart. done.others j apart ∙ get_or-set_other f.places n j true false (λ same. apart (same ∙ numbered));
}

-- The kernel k becomes r by the room for the act, and the fabric f becomes p by the place of the kernel.
module _ (k : KernelValue) (f : FabricValue) (act : Act) (r : KernelValue) (readied : r ≡ record k { ready = Some act }) (n : ℕ) (numbered : n ≡ r.id)
    (p : FabricValue) (reserved : p ≡ placed n f) where
  abbrev both : KernelValue → FabricValue → KernelValue × FabricValue
  both x y = (x, y)

  prepared : both r p ≡ both (record k { ready = Some act }) (placed n f)
  prepared = λ i. (readied i, reserved i)

  -- what can be done can be tried then
  pub can-try : CanDo k f act → has_place p n ≡ true → CanTry r p act
  can-try can place = record {
    able = subst (λ (x : KernelValue × FabricValue). CanAct x.0 x.1 act) (sym prepared) (record {
      setup = can.able.setup;
      few = can.able.few;
      sound = can.able.sound;
      fabric = record { kernels = can.able.fabric.kernels; window = can.able.fabric.window; kills = can.able.fabric.kills };
      enabled = can.able.enabled;
    });
    ready = ap (λ (x : KernelValue). x.ready) readied;
    place = ap (has_place p) (sym numbered) ∙ place;
  }

  pub still-passes : CanDo k f act → is_passable p r.id act ≡ true
  still-passes can =
      subst (λ (x : KernelValue × FabricValue). is_passable x.1 x.0.id act ≡ true) (sym prepared) (passable-placed n f k.id act ∙ can.passes)

  -- what is done then is done from before
  pub done-before : (l : KernelValue) (g : FabricValue) (b : Bool) → HasReplied r p act l g b → HasReplied k f act l g b
  done-before l g b replied =
      let there : HasReplied (record k { ready = Some act }) (placed n f) act l g b =
      subst (λ (x : KernelValue × FabricValue). HasReplied x.0 x.1 act l g b) prepared replied in
      let done = done-placed (record k { ready = Some act }) f act n (numbered ∙ ap (λ (x : KernelValue). x.id) readied) l g there.entry there.done in
      record {
        entry = there.entry;
        done = record {
          input = done.input;
          entry = done.entry;
          kernel = done.kernel;
          sound = done.sound;
          links = done.links;
          journal = done.journal;
          fabric = done.fabric;
          others = done.others;
        };
        told = there.told;
      }
