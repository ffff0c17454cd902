-- What a fetch or a flush of a kernel leaves: the fabric is whole, and no call was answered.
use Rattle.std.proofs.Common.{◌≡◌, ℕ, ◌<◌, true, [], ◌∷◌, ◌++◌, length, drop, slice_get, Option, None, Some, refl, sym, ◌∙◌, ap, subst}
use Rattle.std.specs.Option.{option_map_or}
use Rattle.std.proofs.lemmas.Bool.{ltb-true}
use Rattle.sem_msg.specs.declared.message.Message.{Message}
use Rattle.sem_msg.specs.declared.event.Act.{Act}
use Rattle.sem_msg.specs.declared.event.Act.TheVariants.{Call as Calls, Fetch, Handle, Upcall, Resume, Flush, Kill}
use Rattle.sem_msg.specs.declared.entry.Entry.{Entry}
use Rattle.sem_msg.specs.Setup.{Setup}
use Rattle.sem_msg.specs.Fabric.{FabricValue, link_in, relinked, entered}
use Rattle.sem_msg.proofs.Squares.{square-put}
use Rattle.sem_msg.proofs.Entering.{agrees-fetch, agrees-flush}
use Rattle.sem_machine.specs.Sides.{outbox}
use Rattle.sem_machine.specs.Machine.{local_step, local_entry}
use Rattle.sem_kernel.specs.KernelValue.{KernelValue, IsInput}
use Rattle.sem_kernel.specs.Rooms.{only_moves}
use Rattle.sem_kernel.specs.Worlds.{is_passable, taken, fabric_moved, CanAct, HasDone}
use Rattle.sem_kernel.proofs.Peers.{enabled-peer, able-below}
use Rattle.sem_parts.proofs.EnteredSteps.{flush-carries}
use Rattle.sem_turn.specs.Passes.{IsWhole}

-- Neither of the two steps replies.

moves-silent : (k : KernelValue) (act : Act) (input : Option Message) → only_moves act ≡ true → IsInput act input →
    (local_entry k.setup k.id k.side act input).reply ≡ None
unfolding local_entry local_step
moves-silent k (Fetch j) None moves is = absurd is
moves-silent k (Fetch j) (Some m) moves is = refl
moves-silent k (Flush j) None moves is = refl
moves-silent k (Flush j) (Some m) moves is = absurd is
moves-silent k (Calls v) input moves is = absurd cc
moves-silent k Handle input moves is = absurd cc
moves-silent k (Upcall v) input moves is = absurd cc
moves-silent k (Resume v) input moves is = absurd cc
moves-silent k (Kill v) input moves is = absurd cc

-- The fabric is whole after the two steps.

module _ (k : KernelValue) (f : FabricValue) (whole : IsWhole k.setup f) where
  fetch-whole : (j : ℕ) (o : Option Message) → CanAct k f (Fetch j) → IsInput (Fetch j) o → slice_get (link_in f.links j k.id) 0 ≡ o →
      IsWhole k.setup (entered (local_entry k.setup k.id k.side (Fetch j) o) (relinked j k.id (drop 1 (link_in f.links j k.id)) f))
  unfolding local_entry
  fetch-whole j None can is first = absurd is
  fetch-whole j (Some m) can is first = record {
    agrees = agrees-fetch k.setup f whole.agrees (local_entry k.setup k.id k.side (Fetch j) (Some m)) (able-below k f (Fetch j) can) j m refl refl first;
    square = square-put k.setup.kernels f.links j k.id (drop 1 (link_in f.links j k.id)) whole.square
        (enabled-peer k.setup k.id k.side (Fetch j) can.enabled).0 can.few;
  }

  flush-whole : (j : ℕ) → CanAct k f (Flush j) → length (link_in f.links k.id j) < f.window →
      IsWhole k.setup (entered (local_entry k.setup k.id k.side (Flush j) None) (fabric_moved k.id k.side (Flush j) f))
  unfolding local_entry
  flush-whole j can room =
      let sent = flush-carries k.setup k.id k.side j can.enabled in
      subst (λ o. IsWhole k.setup (entered (local_entry k.setup k.id k.side (Flush j) None)
      (option_map_or (λ m. relinked k.id j (link_in f.links k.id j ++ m ∷ []) f) o f))) (sym sent.2) (record {
        agrees = agrees-flush k.setup f whole.agrees (local_entry k.setup k.id k.side (Flush j) None) (able-below k f (Flush j) can) j sent.0 refl sent.1 room;
        square = square-put k.setup.kernels f.links k.id j (link_in f.links k.id j ++ sent.0 ∷ []) whole.square can.few
            (enabled-peer k.setup k.id k.side (Flush j) can.enabled).0;
      })

  moves-whole : (act : Act) → CanAct k f act → only_moves act ≡ true → is_passable f k.id act ≡ true → IsInput act (taken f k.id act) →
      IsWhole k.setup (entered (local_entry k.setup k.id k.side act (taken f k.id act)) (fabric_moved k.id k.side act f))
  moves-whole (Fetch j) can moves passes is = fetch-whole j (slice_get (link_in f.links j k.id) 0) can is refl
  moves-whole (Flush j) can moves passes is = flush-whole j can (ltb-true (length (link_in f.links k.id j)) f.window passes)
  moves-whole (Calls v) can moves passes is = absurd cc
  moves-whole Handle can moves passes is = absurd cc
  moves-whole (Upcall v) can moves passes is = absurd cc
  moves-whole (Resume v) can moves passes is = absurd cc
  moves-whole (Kill v) can moves passes is = absurd cc

  module _ (act : Act) (can : CanAct k f act) (moves : only_moves act ≡ true) (l : KernelValue) (g : FabricValue) (e : Entry)
      (done : HasDone k f act l g e) where
    pub done-silent : e.reply ≡ None
    done-silent = ap (λ (x : Entry). x.reply) done.entry ∙ moves-silent k act (taken f k.id act) moves done.input

    -- places do not matter
    pub done-whole : is_passable f k.id act ≡ true → IsWhole k.setup g
    done-whole passes =
        let after : FabricValue = entered (local_entry k.setup k.id k.side act (taken f k.id act)) (fabric_moved k.id k.side act f) in
        let there : IsWhole k.setup after = moves-whole act can moves passes done.input in
        let journal : g.journal ≡ f.journal ++ local_entry k.setup k.id k.side act (taken f k.id act) ∷ [] =
        done.journal ∙ ap (λ x. f.journal ++ x ∷ []) done.entry in
        same-whole k.setup after g (done.fabric.kernels ∙ sym there.agrees.same_kernels) (done.fabric.window ∙ sym there.agrees.same_window)
        (done.fabric.kills ∙ sym there.agrees.same_kills) (journal ∙ sym (carried-journal act)) done.links there
      where
        same-whole : (T : Setup) (x y : FabricValue) → y.kernels ≡ x.kernels → y.window ≡ x.window → y.kills ≡ x.kills → y.journal ≡ x.journal →
            y.links ≡ x.links → IsWhole T x → IsWhole T y
        same-whole T x y kernels window kills journal links whole =
            let same : y ≡ record x { places = y.places } = λ i. record {
              kernels = kernels i;
              window = window i;
              kills = kills i;
              journal = journal i;
              links = links i;
              places = y.places;
            } in
            subst (IsWhole T) (sym same) (record { agrees = whole.agrees; square = whole.square })

        carried-journal : (a : Act) → (entered (local_entry k.setup k.id k.side act (taken f k.id act)) (fabric_moved k.id k.side a f)).journal
            ≡ f.journal ++ local_entry k.setup k.id k.side act (taken f k.id act) ∷ []
        carried-journal (Calls v) = refl
        carried-journal (Resume v) = refl
        carried-journal (Upcall v) = refl
        carried-journal Handle = refl
        carried-journal (Fetch j) = refl
        carried-journal (Flush j) = from (slice_get (outbox k.side j) 0)
          where
            from : (o : Option Message) → (entered (local_entry k.setup k.id k.side act (taken f k.id act))
                (option_map_or (λ m. relinked k.id j (link_in f.links k.id j ++ m ∷ []) f) o f)).journal
                ≡ f.journal ++ local_entry k.setup k.id k.side act (taken f k.id act) ∷ []
            from None = refl
            from (Some m) = refl
        carried-journal (Kill v) = refl
