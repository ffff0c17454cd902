-- What is claimed of a client never grows: along every schedule of a file service.
use Rattle.std.proofs.Common.{◌≡◌, ℕ, zero, suc, ◌+◌, ◌≤◌, ◌<◌, ◌++◌, Bool, true, List, [], ◌∷◌, drop, take, get_or, Option, Some, None, slice_get, refl, sym}
use Rattle.std.proofs.Common.{ap, subst, arith}
use Rattle.std.specs.List.{sum_by}
use Rattle.std.specs.Option.{option_map, option_map_or}
use Rattle.std.proofs.lemmas.List.Sums.{sum_by-cons, sum_by_push}
use Rattle.sem_key.specs.declared.limits.TheConstants.{VPES}
use Rattle.sem_key.specs.Lists.{put}
use Rattle.sem_msg.specs.declared.event.Act.{Act}
use Rattle.sem_msg.specs.declared.event.Act.TheVariants.{Call as Calls, Fetch, Handle, Upcall, Resume, Flush, Kill}
use Rattle.sem_msg.specs.declared.message.Message.{Message}
use Rattle.sem_msg.specs.Rows.{VpeRow, no_vpe}
use Rattle.sem_msg.specs.Setup.{Setup}
use Rattle.sem_msg.specs.Lookups.{calls_of, kernel_of}
use Rattle.sem_machine.specs.Sides.{Side, no_side, row, outbox, call_counted, sent, with_inbox}
use Rattle.sem_machine.specs.Sound.{IsSound}
use Rattle.sem_machine.specs.Steps.{Step, unshown}
use Rattle.sem_machine.specs.Calls.{call_row}
use Rattle.sem_machine.specs.Handles.{handled}
use Rattle.sem_machine.specs.Machine.{World, side, link, with_side, with_link, next_call, local_step, is_enabled, event, after}
use Rattle.sem_machine.proofs.Folds.{option-keeps}
use Rattle.sem_machine.proofs.Weighing.{of_option, weigh-put, weigh-drop}
use Rattle.sem_safety.specs.Counts.{sum_to}
use Rattle.sem_sound.proofs.Named.{kernel-vpe}
use Rattle.sem_revoke.proofs.Revoking.{enabled-parts}
use Rattle.sem_revoke.proofs.Readying.{enabled-low}
use Rattle.sem_revoke.proofs.Serving.{enabled-call}
use Rattle.sem_fs.specs.Service.{IsService}
use Rattle.sem_fs.specs.Serving.{IsServedSide, IsServedWorld}
use Rattle.sem_fs.proofs.Unending.{no-kill}
use Rattle.sem_fs.proofs.Claims.{IsClaim, of_message, of_messages, of_inbox, of_side, of_rows, taken}
use Rattle.sem_fs.proofs.ClaimRows.{pending-promised, counted-so, call-so, upcall-so, resume-so, message-so}

module _ (T : Setup) (w0 : ℕ) (m : ℕ → Bool) (k : ℕ) (h : VpeRow → ℕ) (C : IsClaim T w0 m k h) where
  abbrev pub weight : Side → ℕ
  weight t = of_side T w0 m k h t

  abbrev pub told : Message → ℕ
  told q = of_message T w0 m k h q

  abbrev pub tolds : List Message → ℕ
  tolds qs = of_messages T w0 m k h qs

  -- a side that is nothing has no weight
  none-to : (n : ℕ) → sum_to n (λ v. 0) ≡ 0
  none-to zero = refl
  none-to (suc n) = let rest = none-to n in omega (arith, rest)

  pub nothing : weight no_side ≡ 0
  nothing = sums (of_rows T w0 m k h no_side) (h no_vpe) (none-to VPES) C.empty
    where
      sums : (a b : ℕ) → a ≡ 0 → b ≡ 0 → a + ((b + 0) + (0 + 0)) ≡ 0
      sums a b one two = omega (arith, one, two)

  -- Steps of a side.

  called-less : (S : IsService T) (i : ℕ) (s : Side) (v : ℕ) (input : Option Message) → i < T.kernels → kernel_of T v ≡ i → (row s v).alive ≡ true
      → weight (local_step T i s (Calls v) input).side ≤ weight s
  unfolding local_step
  called-less S i s v input low here alive =
      option-keeps (λ (x : Step). weight x.side ≤ weight s) (call_row T i (call_counted v s) v) (next_call T s v) (unshown s)
      (λ c there. call-so T w0 m k h C (weight s) i v (take (row s v).next_call (calls_of T v)) c (call_counted v s) (S.calls v (row s v).next_call c there)
      (counted-so T w0 m k h C s v c (kernel-vpe T S.setup v (subst (λ n. n < T.kernels) (sym here) low)) alive there))
      (omega arith)

  upcalled-less : (i : ℕ) (s : Side) (v : ℕ) (input : Option Message) → IsServedSide T s → IsSound T i s →
      weight (local_step T i s (Upcall v) input).side ≤ weight s
  unfolding local_step
  upcalled-less i s v input served sound = upcall-so T w0 m k h C (weight s) i v s served sound (omega arith)

  resumed-less : (i : ℕ) (s : Side) (v : ℕ) (input : Option Message) → IsSound T i s → weight (local_step T i s (Resume v) input).side ≤ weight s
  unfolding local_step
  resumed-less i s v input sound = resume-so T w0 m k h C (weight s) i v s sound (omega arith)

  -- the inbox is part of the weight
  inbox-of : (s : Side) (o : Option (ℕ × Message)) → weight (with_inbox o s) + of_inbox T w0 m k h s.inbox ≡ weight s + of_inbox T w0 m k h o
  inbox-of s o = sums (of_rows T w0 m k h s) (taken T w0 m k h (row s w0)) (sum_by (of_messages T w0 m k h) s.outs) (of_inbox T w0 m k h o)
      (of_inbox T w0 m k h s.inbox)
    where
      sums : (a b c x y : ℕ) → (a + (b + (c + x))) + y ≡ (a + (b + (c + y))) + x
      sums a b c x y = omega arith

  sent-of : (s : Side) (j : ℕ) → weight (sent j s) + of_option told (slice_get (outbox s j) 0) ≡ weight s
  sent-of s j =
      let outs = weigh-put tolds [] refl s.outs j (drop 1 (outbox s j)) in
      let front = weigh-drop told (outbox s j) in
      sums (of_rows T w0 m k h s) (taken T w0 m k h (row s w0)) (of_inbox T w0 m k h s.inbox) (sum_by tolds (put [] s.outs j (drop 1 (outbox s j))))
      (sum_by tolds s.outs) (tolds (outbox s j)) (tolds (drop 1 (outbox s j))) (of_option told (slice_get (outbox s j) 0)) outs front
    where
      sums : (a b c new old x y z : ℕ) → new + x ≡ old + y → y + z ≡ x → (a + (b + (new + c))) + z ≡ a + (b + (old + c))
      sums a b c new old x y z one two = omega (arith, one, two)

  -- what is claimed in a world
  abbrev pub claimed : World → ℕ
  claimed W = sum_by weight W.sides + sum_by (λ ls. sum_by tolds ls) W.links

  handled-less : (i : ℕ) (s : Side) (input : Option Message) → IsSound T i s → weight (local_step T i s Handle input).side ≤ weight s
  unfolding local_step
  handled-less i s input sound = from s.inbox refl
    where
      fits : (a b x n : ℕ) → a + x ≡ n + 0 → x ≡ b → a + b ≤ n
      fits a b x n one two = omega (arith, one, two)

      from : (o : Option (ℕ × Message)) → s.inbox ≡ o → weight (option_map_or (λ q. handled T i (with_inbox None s) q.0 q.1) o s) ≤ weight s
      from None none = omega arith
      from (Some q) some = message-so T w0 m k h C (weight s) i q.0 q.1 (with_inbox None s) (λ p among. pending-promised T i s sound p among)
          (fits (weight (with_inbox None s)) (told q.1) (of_inbox T w0 m k h s.inbox) (weight s) (inbox-of s None) (ap (of_inbox T w0 m k h) some))

  -- Worlds.
  world-side : (W : World) (i : ℕ) (t : Side) → claimed (with_side i t W) + weight (side W i) ≡ claimed W + weight t
  world-side W i t = sums (sum_by weight (put no_side W.sides i t)) (sum_by weight W.sides) (sum_by (λ ls. sum_by tolds ls) W.links) (weight (side W i))
      (weight t)
      (weigh-put weight no_side nothing W.sides i t)
    where
      sums : (a b c x y : ℕ) → a + x ≡ b + y → (a + c) + x ≡ (b + c) + y
      sums a b c x y one = omega (arith, one)

  world-link : (W : World) (i j : ℕ) (qs : List Message) → claimed (with_link i j qs W) + tolds (link W i j) ≡ claimed W + tolds qs
  world-link W i j qs =
      let inner = weigh-put tolds [] refl (get_or W.links i []) j qs in
      let outer = weigh-put (λ ls. sum_by tolds ls) [] refl W.links i (put [] (get_or W.links i []) j qs) in
      sums (sum_by weight W.sides) (sum_by (λ ls. sum_by tolds ls) (put [] W.links i (put [] (get_or W.links i []) j qs)))
      (sum_by (λ ls. sum_by tolds ls) W.links)
      (sum_by tolds (put [] (get_or W.links i []) j qs)) (sum_by tolds (get_or W.links i [])) (tolds (link W i j)) (tolds qs) inner outer
    where
      sums : (a new old x y l q : ℕ) → x + l ≡ y + q → new + y ≡ old + x → (a + new) + l ≡ (a + old) + q
      sums a new old x y l q one two = omega (arith, one, two)

  local-less : (W : World) (i : ℕ) (t : Side) → weight t ≤ weight (side W i) → claimed (with_side i t W) ≤ claimed W
  local-less W i t less = sums (claimed (with_side i t W)) (claimed W) (weight (side W i)) (weight t) (world-side W i t) less
    where
      sums : (a b x y : ℕ) → a + x ≡ b + y → y ≤ x → a ≤ b
      sums a b x y one two = omega (arith, one, two)

  in_inbox : (j : ℕ) (o : Option Message) → of_inbox T w0 m k h (option_map (λ q. (j, q)) o) ≡ of_option told o
  in_inbox j None = refl
  in_inbox j (Some q) = refl

  link-more : (V : World) (i j : ℕ) (o : Option Message) → claimed (option_map_or (λ q. with_link i j (link V i j ++ q ∷ []) V) o V)
      ≡ claimed V + of_option told o
  link-more V i j None = omega arith
  link-more V i j (Some q) = sums (claimed (with_link i j (link V i j ++ q ∷ []) V)) (claimed V) (tolds (link V i j)) (tolds (link V i j ++ q ∷ [])) (told q)
      (world-link V i j (link V i j ++ q ∷ [])) (sum_by_push told (link V i j) q)
    where
      sums : (a b x y z : ℕ) → a + x ≡ b + y → y ≡ x + z → a ≡ b + z
      sums a b x y z one two = omega (arith, one, two)

  fetched : (W : World) (i j : ℕ) → claimed (after T W (event i (Fetch j))) ≤ claimed W
  unfolding after local_step
  fetched W i j =
      let s : Side = side W i in
      let ms : List Message = link W j i in
      let input : Option Message = slice_get ms 0 in
      let t : Side = with_inbox (option_map (λ q. (j, q)) input) s in
      let V : World = with_side i t W in
      sums (claimed (with_link j i (drop 1 ms) V)) (claimed V) (claimed W) (weight s) (weight t) (tolds ms) (tolds (drop 1 ms)) (of_option told input)
      (of_inbox T w0 m k h s.inbox) (of_inbox T w0 m k h (option_map (λ q. (j, q)) input)) (world-side W i t) (world-link V j i (drop 1 ms))
      (weigh-drop told ms)
      (inbox-of s (option_map (λ q. (j, q)) input)) (in_inbox j input)
    where
      sums : (f v w s' t' a b o was now : ℕ) → v + s' ≡ w + t' → f + a ≡ v + b → b + o ≡ a → t' + was ≡ s' + now → now ≡ o → f ≤ w
      sums f v w s' t' a b o was now one two three four five = omega (arith, one, two, three, four, five)

  flushed : (W : World) (i j : ℕ) → claimed (after T W (event i (Flush j))) ≤ claimed W
  unfolding after local_step
  flushed W i j =
      let s : Side = side W i in
      let V : World = with_side i (sent j s) W in
      let o : Option Message = slice_get (outbox s j) 0 in
      sums (claimed (option_map_or (λ q. with_link i j (link V i j ++ q ∷ []) V) o V)) (claimed V) (claimed W) (weight s) (weight (sent j s)) (of_option told o)
      (world-side W i (sent j s)) (sent-of s j) (link-more V i j o)
    where
      sums : (f v w s' t' o : ℕ) → v + s' ≡ w + t' → t' + o ≡ s' → f ≡ v + o → f ≤ w
      sums f v w s' t' o one two three = omega (arith, one, two, three)

  -- An event that is enabled makes it no more.
  pub after-less : (S : IsService T) (W : World) → IsServedWorld T W → ((i : ℕ) → i < T.kernels → IsSound T i (side W i)) → (i : ℕ) (a : Act)
      → is_enabled T W (event i a) ≡ true → claimed (after T W (event i a)) ≤ claimed W
  unfolding after
  after-less S W served sound i (Calls v) enabled =
      let here = enabled-call T i (side W i) v (enabled-parts T W i (Calls v) enabled).0 in
      local-less W i (local_step T i (side W i) (Calls v) None).side
      (called-less S i (side W i) v None (enabled-low T W (event i (Calls v)) enabled) here.0 here.1)
  after-less S W served sound i (Upcall v) enabled = local-less W i (local_step T i (side W i) (Upcall v) None).side
      (upcalled-less i (side W i) v None (served.sides i) (sound i (enabled-low T W (event i (Upcall v)) enabled)))
  after-less S W served sound i (Resume v) enabled = local-less W i (local_step T i (side W i) (Resume v) None).side
      (resumed-less i (side W i) v None (sound i (enabled-low T W (event i (Resume v)) enabled)))
  after-less S W served sound i Handle enabled = local-less W i (local_step T i (side W i) Handle None).side
      (handled-less i (side W i) None (sound i (enabled-low T W (event i Handle) enabled)))
  after-less S W served sound i (Fetch j) enabled = fetched W i j
  after-less S W served sound i (Flush j) enabled = flushed W i j
  after-less S W served sound i (Kill v) enabled = absurd (no-kill T S i (side W i) v (enabled-parts T W i (Kill v) enabled).0)

  -- What is claimed at a client is part of it.
  pub taken-within : (W : World) (i : ℕ) → taken T w0 m k h (row (side W i) w0) ≤ claimed W
  taken-within W i = sums (taken T w0 m k h (row (side W i) w0)) (weight (side W i)) (sum_by weight W.sides) (sum_by (λ ls. sum_by tolds ls) W.links)
      (of_rows T w0 m k h (side W i)) (sum_by tolds (side W i).outs + of_inbox T w0 m k h (side W i).inbox) refl (within W.sides i)
    where
      sums : (a s' all links b c : ℕ) → s' ≡ b + (a + c) → s' ≤ all → a ≤ all + links
      sums a s' all links b c one two = omega (arith, one, two)

      within : (ss : List Side) (j : ℕ) → weight (get_or ss j no_side) ≤ sum_by weight ss
      within [] j = let x = nothing in none-less (weight no_side) x
        where
          none-less : (a : ℕ) → a ≡ 0 → a ≤ 0
          none-less a is = omega (arith, is)
      within (s ∷ ss) zero = fits (weight s) (sum_by weight ss) (sum_by weight (s ∷ ss)) (sum_by-cons weight s ss)
        where
          fits : (a b c : ℕ) → c ≡ a + b → a ≤ c
          fits a b c is = omega (arith, is)
      within (s ∷ ss) (suc j) = fits (weight (get_or ss j no_side)) (weight s) (sum_by weight ss) (sum_by weight (s ∷ ss)) (within ss j)
          (sum_by-cons weight s ss)
        where
          fits : (x a b c : ℕ) → x ≤ b → c ≡ a + b → x ≤ c
          fits x a b c less is = omega (arith, less, is)
