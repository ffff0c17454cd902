use Rattle.std.proofs.Common.{◌≡◌, ℕ, ◌+◌, ◌-◌, ◌<◌, slice_index_or, List, [], ◌∷◌, ◌++◌, length, take, refl, sym, ◌∙◌, ap, subst, arith}
use Rattle.std.specs.Global.{Vec}
use Rattle.std.proofs.lemmas.List.{take_more}
use Rattle.sem_key.specs.KeyName.{KeyName}
use Rattle.sem_key.specs.Lists.{in_turn}
use Rattle.sem_key.proofs.InTurns.{in_turn-append}
use Rattle.sem_machine.specs.Ends.{revoked_if_left}
use Rattle.sem_machine.specs.Sound.{IsSound}
use Rattle.sem_kernel.specs.declared.stores.Stores.{Stores}
use Rattle.sem_kernel.specs.KernelStores.{side_of}
use Rattle.sem_kernel.specs.Rooms.{HasRoomForJobs}
use Rattle.sem_kernel.proofs.Leavings.{fewer-jobs, left-sound}
use Rattle.sem_kernel.proofs.stores.Stores.revoke_ended.Goals as goal

pub loop-at-init : goal.loop-at-init
unfolding in_turn
loop-at-init c = record {
  row = refl;
  are = c.requires.are;
  room = λ n same. fewer-jobs (length c.args.self.now.ended.items) n c.args.self.now (omega (arith, same)) c.requires.room;
  ended = refl;
}

pub revoke_if_left-requires-clause-room : goal.revoke_if_left-requires-clause-room
revoke_if_left-requires-clause-room c =
    let below : c.loop-at.at < length c.args.self.now.ended.items = omega (arith, c.loop-at-test.true, c.len-at-end.ensures) in
    one-left c.loop-at.at (length c.args.self.now.ended.items) c.loop-at.self below c.loop-at.invariant.room
  where
    one-left : (at n : ℕ) (x : Stores) → at < n → ((m : ℕ) → m + at ≡ n → HasRoomForJobs m x) → HasRoomForJobs 1 x
    one-left at n x below each = fewer-jobs (n - at) 1 x (omega (arith, below)) (each (n - at) (omega (arith, below)))

pub loop-at-preserved : goal.loop-at-preserved
unfolding in_turn
loop-at-preserved c =
    let f = revoked_if_left c.args.setup.now c.args.kernel in
    let keys : List KeyName = c.args.self.now.ended.items in
    let at = c.loop-at.at in
    let k = c.index-key.result.now in
    let below : at < length keys = omega (arith, c.loop-at-test.true, c.len-at-end.ensures) in
    let taken : take (at + 1) keys ≡ take at keys ++ k ∷ [] = take_more keys at k below
    ∙ ap (λ x. take at keys ++ x ∷ []) (sym (listed c.loop-at.self c.args.self.now at k c.loop-at.invariant.ended c.index-key.ensures)) in
    record {
      row = c.revoke_if_left.ensures.row
          ∙ (ap (f k) c.loop-at.invariant.row
          ∙ sym (ap (λ ks. in_turn f ks (side_of c.args.self.now)) taken ∙ in_turn-append f (take at keys) (k ∷ []) (side_of c.args.self.now)));
      are = record {
        setup = c.requires.are.setup;
        is_one = c.requires.are.is_one;
        stores = c.revoke_if_left.ensures.stores;
        sound = subst (IsSound c.args.setup.now c.args.kernel) (sym c.revoke_if_left.ensures.row)
            (left-sound c.args.setup.now c.requires.are.setup c.args.kernel c.requires.are.is_one (side_of c.loop-at.self) c.loop-at.invariant.are.sound k);
      };
      room = λ n same. c.revoke_if_left.ensures.room n (c.loop-at.invariant.room (n + 1) (omega (arith, same)));
      ended = c.revoke_if_left.ensures.ended ∙ c.loop-at.invariant.ended;
    }
  where
    listed : (x y : Stores) (at : ℕ) (k : KeyName) → x.ended ≡ y.ended → k ≡ slice_index_or x.ended.items at k → k ≡ slice_index_or y.ended.items at k
    listed x y at k same is = is ∙ ap (λ (v : Vec KeyName). slice_index_or v.items at k) same
