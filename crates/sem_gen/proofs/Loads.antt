-- In a generated setup no VPE is killed and none calls `exit`, and each has as many calls as were asked for.
use Rattle.std.proofs.Common.{◌≡◌, ◌≢◌, ℕ, ◌+◌, ◌*◌, ◌/◌, ◌%◌, ◌==◌, cond, [], map, refl}
use Rattle.std.specs.List.{All, Contains, range_with_len}
use Rattle.std.proofs.lemmas.List.Elements.{All-contains}
use Rattle.sem_key.specs.declared.limits.TheConstants.{RIGHTS}
use Rattle.sem_msg.specs.declared.call.Call.{Call}
use Rattle.sem_msg.specs.declared.call.Call.TheVariants.{Derive, Obtain, Delegate, Revoke, Exit}
use Rattle.sem_msg.specs.declared.setup.VpeDecl.{VpeDecl}
use Rattle.sem_msg.specs.Setup.{call_count}
use Rattle.sem_gen.specs.Generated.{drawn_word, target_of, source_of, peer_of, call_of, vpe_of, generated}
use Rattle.sem_pick.specs.Seeds.{generator_of}
use Rattle.sem_gen.proofs.Sound.{chosen, all-mapped, call-total}

pub none-killed : (seed vpes calls : ℕ) → (generated seed vpes calls).kills ≡ []
unfolding generated
none-killed seed vpes calls = refl

-- the call of a word is no exit
call-stays : (vpes x : ℕ) → call_of vpes x ≢ Exit
call-stays vpes x =
    let derive : Call = Derive (source_of x) (target_of x) 0 (x / 65536) RIGHTS in
    let obtain : Call = Obtain (target_of x) (peer_of vpes x) (source_of x) in
    let delegate : Call = Delegate (source_of x) (peer_of vpes x) (target_of x) in
    let revoke : Call = Revoke (target_of x) in
    chosen (λ (c : Call). c ≢ Exit) (x % 4 == 0) derive (cond (x % 4 == 1) obtain (cond (x % 4 == 2) delegate revoke)) (λ is. absurd cc)
    (chosen (λ (c : Call). c ≢ Exit) (x % 4 == 1) obtain (cond (x % 4 == 2) delegate revoke) (λ is. absurd cc)
    (chosen (λ (c : Call). c ≢ Exit) (x % 4 == 2) delegate revoke (λ is. absurd cc) (λ is. absurd cc)))

pub none-exits : (seed vpes calls : ℕ) (d : VpeDecl) → Contains (generated seed vpes calls).vpes d → Contains d.calls Exit → ⊥
unfolding generated
none-exits seed vpes calls d among exits =
    let stays : All (λ (d : VpeDecl). All (λ (c : Call). c ≢ Exit) d.calls) (map (vpe_of seed vpes calls) (range_with_len 0 vpes)) =
    all-mapped (λ (d : VpeDecl). All (λ (c : Call). c ≢ Exit) d.calls) (vpe_of seed vpes calls) 0 vpes
    (λ v inside. all-mapped (λ (c : Call). c ≢ Exit) (λ m. call_of vpes (drawn_word (generator_of seed) m)) ((0 + v) * calls) calls
    (λ m within. call-stays vpes (drawn_word (generator_of seed) ((0 + v) * calls + m)))) in
    All-contains (λ (c : Call). c ≢ Exit) d.calls Exit
    (All-contains (λ (d : VpeDecl). All (λ (c : Call). c ≢ Exit) d.calls) (map (vpe_of seed vpes calls) (range_with_len 0 vpes)) d stays among) exits refl

pub calls-counted : (seed vpes calls : ℕ) → call_count (generated seed vpes calls) ≡ vpes * calls
unfolding generated
calls-counted seed vpes calls = call-total seed vpes calls 0 vpes
