-- The words of a generator, one after another.
use Rattle.std.proofs.Common.{◌≡◌, ℕ, zero, suc, ◌+◌, ◌*◌, List, [], ◌∷◌, ◌++◌, map, refl, ap, sym, ◌∙◌, zero-add, arith}
use Rattle.std.specs.List.{range_with_len}
use Rattle.std.proofs.lemmas.List.FromFn.{map-range_with_len_more}
use Rattle.rand_pcg.specs.Lcg.{Lcg, advance, next, next_state, state_after}
use Rattle.rand_pcg.specs.Pcg.{multiplier_64, pcg32}
use Rattle.sem_msg.specs.declared.call.Call.{Call}
use Rattle.sem_msg.specs.declared.setup.Root.{Root}
use Rattle.sem_msg.specs.declared.setup.VpeDecl.{VpeDecl}
use Rattle.sem_gen.specs.Drawn.{drawn_calls}
use Rattle.sem_gen.specs.Generated.{drawn_word, call_of, generated_roots, vpe_of}
use Rattle.sem_pick.specs.Seeds.{generator_of}

-- j steps and then k
state-add : (w m i j k s : ℕ) → state_after w m i k (state_after w m i j s) ≡ state_after w m i (j + k) s
unfolding state_after
state-add w m i zero k s = rw zero-add refl
state-add w m i (suc j) k s = let e : suc j + k ≡ suc (j + k) = omega arith in rw e (state-add w m i j k (next_state w m i s))

pub advance-add : (g : Lcg) (j k : ℕ) → advance 64 multiplier_64 k (advance 64 multiplier_64 j g) ≡ advance 64 multiplier_64 (j + k) g
advance-add g j k = ap (λ (s : ℕ). record g { state = s }) (state-add 64 multiplier_64 g.increment j k g.state)

pub advance-zero : (g : Lcg) → g ≡ advance 64 multiplier_64 0 g
unfolding state_after
advance-zero g = refl

-- one step more
pub advance-one : (g h h' : Lcg) (n : ℕ) → h ≡ advance 64 multiplier_64 n g → h' ≡ (pcg32 h).1 → h' ≡ advance 64 multiplier_64 (n + 1) g
unfolding state_after
advance-one g h h' n at stepped = stepped ∙ (ap (next 64 multiplier_64) at ∙ advance-add g n 1)

pub word-here : (g h : Lcg) (n : ℕ) → h ≡ advance 64 multiplier_64 n g → (pcg32 h).0 ≡ drawn_word g n
unfolding drawn_word
word-here g h n at = ap (λ (x : Lcg). (pcg32 x).0) at

word-later : (g : Lcg) (j m : ℕ) → drawn_word (advance 64 multiplier_64 j g) m ≡ drawn_word g (j + m)
unfolding drawn_word
word-later g j m = ap (λ (x : Lcg). (pcg32 x).0) (advance-add g j m)

-- the calls of the words from word j on
drawn-later : (g : Lcg) (vpes j first n : ℕ) → drawn_calls (advance 64 multiplier_64 j g) vpes first n ≡ drawn_calls g vpes (j + first) n
drawn-later g vpes j first zero = refl
drawn-later g vpes j first (suc n) =
    let e : j + (first + 1) ≡ (j + first) + 1 = omega arith in
    let rest : drawn_calls (advance 64 multiplier_64 j g) vpes (first + 1) n ≡ drawn_calls g vpes ((j + first) + 1) n = rw e at (drawn-later g vpes j (first + 1) n) in
    rw (word-later g j first, rest) refl

pub drawn-there : (g h : Lcg) (vpes j n : ℕ) → h ≡ advance 64 multiplier_64 j g → drawn_calls h vpes 0 n ≡ drawn_calls g vpes j n
drawn-there g h vpes j n at =
    let e : j + 0 ≡ j = omega arith in
    ap (λ (x : Lcg). drawn_calls x vpes 0 n) at ∙ (drawn-later g vpes j 0 n ∙ ap (λ i. drawn_calls g vpes i n) e)

pub drawn-more : (g : Lcg) (vpes n x : ℕ) (list list' : List Call) (c : Call) → list ≡ drawn_calls g vpes 0 n → list' ≡ list ++ c ∷ [] → c ≡ call_of vpes x →
    x ≡ drawn_word g n → list' ≡ drawn_calls g vpes 0 (n + 1)
drawn-more g vpes n x list list' c so_far pushed is word =
    let e : 0 + n ≡ n = omega arith in
    pushed ∙ (rw (so_far, is, word) (sym (map-range_with_len_more (λ m. call_of vpes (drawn_word g m)) 0 n n e)))

-- the words of one more VPE
pub words-more : (g h h' : Lcg) (v calls : ℕ) → h ≡ advance 64 multiplier_64 (v * calls) g → h' ≡ advance 64 multiplier_64 calls h →
    h' ≡ advance 64 multiplier_64 ((v + 1) * calls) g
words-more g h h' v calls at drawn_all =
    let e : v * calls + calls ≡ (v + 1) * calls = omega arith in
    drawn_all ∙ (ap (advance 64 multiplier_64 calls) at ∙ (advance-add g (v * calls) calls ∙ ap (λ n. advance 64 multiplier_64 n g) e))

-- one more VPE
pub vpes-more : (seed vpes calls v : ℕ) (h : Lcg) (list list' : List VpeDecl) (roots : List Root) (made : List Call) →
    h ≡ advance 64 multiplier_64 (v * calls) (generator_of seed) → list ≡ map (vpe_of seed vpes calls) (range_with_len 0 v) → roots ≡ generated_roots v →
    made ≡ drawn_calls h vpes 0 calls → list' ≡ list ++ record { vpe = v; pe = v; roots = roots; calls = made } ∷ [] →
    list' ≡ map (vpe_of seed vpes calls) (range_with_len 0 (v + 1))
vpes-more seed vpes calls v h list list' roots made at so_far held drawn_here pushed =
    let mine : made ≡ drawn_calls (generator_of seed) vpes (v * calls) calls = drawn_here ∙ drawn-there (generator_of seed) h vpes (v * calls) calls at in
    pushed ∙ (rw (so_far, held, mine) (sym (map-range_with_len_more (vpe_of seed vpes calls) 0 v v (zero-add v))))
