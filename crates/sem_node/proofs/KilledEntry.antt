-- The entry of a kill, made before the kernel steps.
use Rattle.std.proofs.Common.{◌≡◌, ℕ, ◌<◌, ◌&&◌, Bool, true, false, List, [], ◌∷◌, ◌++◌, length, None, Some, refl, sym, ◌∙◌, ap, subst, inl, arith}
use Rattle.std.specs.Prelude.{MatchBool, is_some}
use Rattle.std.specs.Option.{IsSomeAnd}
use Rattle.std.proofs.lemmas.Bool.{and_parts}
use Rattle.sem_msg.specs.declared.event.Act.TheVariants.{Kill}
use Rattle.sem_msg.specs.declared.entry.Entry.{Entry}
use Rattle.sem_msg.specs.declared.entry.Detail.TheVariants.{Nothing}
use Rattle.sem_msg.specs.Setup.{Setup}
use Rattle.sem_msg.specs.Journal.{part, replies}
use Rattle.sem_msg.specs.Fabric.{FabricValue, is_due, entered}
use Rattle.sem_msg.proofs.Moves.{part-own}
use Rattle.sem_msg.proofs.Entering.{agrees-kill}
use Rattle.sem_machine.specs.Sides.{Side}
use Rattle.sem_machine.specs.Machine.{is_locally_enabled, local_step, local_entry}
use Rattle.sem_kernel.specs.KernelValue.{KernelValue, is_timely}
use Rattle.sem_turn.specs.Passes.{PassValue, has_place, IsWhole, Follows}
use Rattle.sem_node.specs.Stepping.{MayGetPlace}
use Rattle.sem_node.specs.Killing.{CanPut, HasPut}
use Rattle.sem_node.specs.Telling.{HasOneMore}
use Rattle.sem_node.proofs.Trying.{entered-journal, entered-follows, entered-whole}

-- what the entry of a kill is, whatever the side of its kernel
abbrev kill_entry : ℕ → ℕ → Entry
kill_entry i v = record { event = record { kernel = i; act = Kill v }; detail = Nothing; grant = None; cut = None; reply = None }

kill-entry : (T : Setup) (i : ℕ) (s : Side) (v : ℕ) → local_entry T i s (Kill v) None ≡ kill_entry i v
unfolding local_entry local_step
kill-entry T i s v = refl

module _ (k : KernelValue) (f : FabricValue) (v : ℕ) (can : CanPut k f v) where
  -- the kernel is one of the fabric
  pub put-below : (n : ℕ) → n ≡ k.id → n < f.kernels
  put-below n same = let few = can.few in let kernels = can.whole.agrees.same_kernels in omega (arith, few, kernels, same)

  pub put-place : (n : ℕ) → n ≡ k.id → has_place f n ≡ true
  put-place n same = subst (λ m. has_place f m ≡ true) (sym same) can.place

  -- it is put, where it is due
  pub put-done : (x h : FabricValue) (i n : ℕ) (b : Bool) → i ≡ k.id → x ≡ entered (kill_entry i v) f → MayGetPlace i x h → n ≡ length (replies f.journal)
      → b ≡ (is_locally_enabled k.setup k.id k.side (Kill v) && is_timely k.setup n (Kill v)) → b ≡ true → HasPut true k f v h
  put-done x h i n b i_is put got counted told on =
      let due : is_due k.setup n v ≡ true = (and_parts (is_locally_enabled k.setup k.id k.side (Kill v)) (is_timely k.setup n (Kill v)) (sym told ∙ on)).1 in
      let put' : x ≡ entered (kill_entry k.id v) f = put ∙ ap (λ m. entered (kill_entry m v) f) i_is in
      let got' : MayGetPlace k.id x h = subst (λ m. MayGetPlace m x h) i_is got in
      record {
        journal = entered-journal k.setup f x h (kill_entry k.id v) k.id refl put' got'
            ∙ ap (λ (e : Entry). f.journal ++ e ∷ []) (sym (kill-entry k.setup k.id k.side v));
        follows = entered-follows k.setup f x h (kill_entry k.id v) k.id refl put' got';
        whole = entered-whole k.setup f x h (kill_entry k.id v) k.id refl put' got'
            (subst (IsWhole k.setup) (sym put') (record {
              agrees = agrees-kill k.setup f can.whole.agrees (kill_entry k.id v) (put-below k.id refl) v refl
                  (subst (λ r. is_due k.setup r v ≡ true) counted due);
              square = can.whole.square;
            }));
      }

  -- and nothing is, where it is not
  pub put-none : HasPut false k f v f
  put-none = record { journal = refl; follows = (inl refl, λ j apart. refl); whole = can.whole }

-- The kernel k has the pass p, which holds the turn as u, with the fabric f.
module _ (T : Setup) (k : KernelValue) (p u : PassValue) (f : FabricValue) (v : ℕ) (id : k.id ≡ p.kernel) (setup : k.setup ≡ T) (placed : p.placed ≡ true)
    (took : u ≡ record p { taken = Some f }) (below : p.kernel < T.kernels) (entries : p.entries ≡ part f.journal p.kernel) (place : p.placed ≡ true →
    has_place f p.kernel ≡ true)
    (whole : IsWhole T f) where
  pub can-put : CanPut k f v
  can-put = record {
    few = subst (λ (x : ℕ × Setup). x.0 < x.1.kernels) (λ i. (sym id i, sym setup i)) below;
    whole = subst (λ (S : Setup). IsWhole S f) (sym setup) whole;
    place = subst (λ m. has_place f m ≡ true) (sym id) (place placed);
  }

  module _ (b : Bool) (g : FabricValue) (put : HasPut b k f v g) where
    pub put-held : IsSomeAnd u.taken (λ x. Follows u.kernel x g)
    put-held = subst (λ (q : PassValue). IsSomeAnd q.taken (λ x. Follows q.kernel x g)) (sym took) (subst (λ m. Follows m f g) id put.follows)

    pub put-whole : IsWhole T g
    put-whole = subst (λ (S : Setup). IsWhole S g) setup put.whole

    -- what the pass has then
    pub put-entries : (q : PassValue) → q.entries ≡ part g.journal u.kernel
        → MatchBool b (q.entries ≡ p.entries ++ local_entry k.setup k.id k.side (Kill v) None ∷ []) (q.entries ≡ p.entries)
    put-entries q back = by b put.journal
      where
        u-kernel : u.kernel ≡ p.kernel
        u-kernel = ap (λ (x : PassValue). x.kernel) took

        old : part f.journal u.kernel ≡ p.entries
        old = ap (λ m. part f.journal m) u-kernel ∙ sym entries

        e : Entry
        e = local_entry k.setup k.id k.side (Kill v) None

        own : e.event.kernel ≡ u.kernel
        own = ap (λ (x : Entry). x.event.kernel) (kill-entry k.setup k.id k.side v) ∙ (id ∙ sym u-kernel)

        by : (d : Bool) → MatchBool d (g.journal ≡ f.journal ++ e ∷ []) (g.journal ≡ f.journal) →
            MatchBool d (q.entries ≡ p.entries ++ e ∷ []) (q.entries ≡ p.entries)
        by true j = back ∙ (ap (λ (J : List Entry). part J u.kernel) j ∙ (part-own f.journal e u.kernel own ∙ ap (λ (L : List Entry). L ++ e ∷ []) old))
        by false j = back ∙ (ap (λ (J : List Entry). part J u.kernel) j ∙ old)

    pub put-shown : (q : PassValue) (c : Bool) → q.placed ≡ has_place g u.kernel → (c ≡ true → has_place g k.id ≡ true) → c ≡ true → q.placed ≡ true
    put-shown q c back shown on = back ∙ (ap (λ m. has_place g m) (ap (λ (x : PassValue). x.kernel) took ∙ sym id) ∙ shown on)

-- The entry of a kill is the one more of its pass.
pub kill-tells : (T : Setup) (i : ℕ) (s : Side) (v : ℕ) (old new : List Entry) → new ≡ old ++ local_entry T i s (Kill v) None ∷ []
    → HasOneMore (Kill v) false old new
kill-tells T i s v old new came = record {
  entry = local_entry T i s (Kill v) None;
  came = came;
  tells = ap (λ (e : Entry). e.event.act) (kill-entry T i s v);
  reply = ap (λ (e : Entry). is_some e.reply) (kill-entry T i s v);
}
