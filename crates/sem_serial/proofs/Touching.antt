-- The enabled events of a kernel that an event does not touch.
use Rattle.std.proofs.Common.{◌≡◌, ℕ, ◌+◌, ◌-◌, ◌&&◌, Bool, cond, true, false, List, [], ◌∷◌, ◌++◌, length, map, drop, get_or, Option, Some, None}
use Rattle.std.proofs.Common.{is_none, is_some, slice_get, refl, sym, ◌∙◌, ap, arith, inl, inr, ◌⊎◌, length-append}
use Rattle.std.specs.Prelude.{◌||◌, ◌==◌, nat_lt, nat_le}
use Rattle.std.specs.List.{filter, find, list_any, range_with_len}
use Rattle.std.specs.Option.{option_map, option_map_or}
use Rattle.std.proofs.lemmas.Bool.{cases_eq, cases_lt, eqb-false, false≢true, lt-ltb, ltb-true, le-leb, lt-leb}
use Rattle.std.proofs.lemmas.List.{length-drop}
use Rattle.std.proofs.lemmas.List.Elements.{filter-append}
use Rattle.sem_key.proofs.Puts.{get_or-put_other}
use Rattle.sem_msg.specs.declared.event.Act.{Act}
use Rattle.sem_msg.specs.declared.event.Act.TheVariants.{Call as Calls, Fetch, Handle, Upcall, Resume, Flush, Kill}
use Rattle.sem_msg.specs.declared.event.Event.{Event}
use Rattle.sem_msg.specs.declared.entry.Reply.{Reply}
use Rattle.sem_msg.specs.declared.message.Message.{Message}
use Rattle.sem_msg.specs.declared.setup.VpeDecl.{VpeDecl}
use Rattle.sem_msg.specs.Setup.{Setup}
use Rattle.sem_msg.specs.Fabric.{is_due}
use Rattle.sem_msg.proofs.Moves.{link_in-same, link_in-other}
use Rattle.sem_machine.specs.Sides.{Side, no_side, outbox}
use Rattle.sem_machine.specs.Steps.{Step}
use Rattle.sem_machine.specs.Machine.{World, side, link, with_side, with_link, event, local_step, local_entry, input_of, link_moved}
use Rattle.sem_machine.specs.Machine.{is_locally_enabled, is_other_kernel, is_allowed, is_enabled, after, entry_of, replied_vpe}
use Rattle.sem_safety.proofs.GoingOn.{moved-sides}
use Rattle.sem_kernel.specs.Listing.{enabled_of}
use Rattle.sem_kernel.proofs.Passing.{some-within}
use Rattle.sem_serial.specs.Listed.{comes_due, touched_peer}

-- Tests of which one or both hold.

or-first : (a b : Bool) → (a || b) ≡ false → a ≡ false
or-first true b none = none
or-first false b none = refl

or-then : (a b : Bool) → (a || b) ≡ false → b ≡ false
or-then true b none = absurd (false≢true (sym none))
or-then false b none = none

and-either : (a b : Bool) → (a && b) ≡ false → (a ≡ false) ⊎ (b ≡ false)
and-either true b none = inr none
and-either false b none = inl refl

and-none : (a : Bool) → (a && false) ≡ false
and-none true = refl
and-none false = refl

some-not : {X : Type 0} (o : Option X) → is_some o ≡ true → is_none o ≡ false
some-not None some = absurd (false≢true some)
some-not (Some x) some = refl

-- a test that gives no number, and not that one
spared : (b : Bool) (j k : ℕ) → (cond {A = Option ℕ} b None (Some j) ≡ Some k → ⊥) → k ≡ j → b ≡ true
spared true j k far to = refl
spared false j k far to = absurd (far (ap Some (sym to)))

or-either : (a b : Bool) → (a || b) ≡ true → (a ≡ true) ⊎ (b ≡ true)
or-either true b some = inl refl
or-either false b some = inr some

-- Lists that two tests tell alike.

kept-same : {X : Type 0} (p q : Event → Bool) (f : X → Event) (xs : List X) → ((x : X) → p (f x) ≡ q (f x)) → filter p (map f xs) ≡ filter q (map f xs)
kept-same p q f [] alike = refl
kept-same p q f (x ∷ xs) alike =
    ap (λ b. cond b (f x ∷ filter p (map f xs)) (filter p (map f xs))) (alike x)
    ∙ ap (λ es. cond (q (f x)) (f x ∷ es) es) (kept-same p q f xs alike)

kept-both : (p q : Event → Bool) (xs ys : List Event) → filter p xs ≡ filter q xs → filter p ys ≡ filter q ys → filter p (xs ++ ys) ≡ filter q (xs ++ ys)
kept-both p q xs ys first then =
    filter-append p xs ys
    ∙ (ap (λ es. es ++ filter p ys) first
    ∙ (ap (λ es. filter q xs ++ es) then
    ∙ sym (filter-append q xs ys)))

-- Links that hold one message more or fewer.

-- there was a message before the last one of two
two-some : (ms : List Message) (m : Message) → nat_lt 1 (length (ms ++ m ∷ [])) ≡ true → is_some (slice_get ms 0) ≡ true
two-some ms m two =
    let more = ltb-true 1 (length (ms ++ m ∷ [])) two in
    let long = length-append ms (m ∷ []) in
    sym (some-within ms 0) ∙ lt-ltb 0 (length ms) (omega (arith, more, long))

one-some : (ms : List Message) (m : Message) → is_some (slice_get (ms ++ m ∷ []) 0) ≡ true
one-some ms m = let long = length-append ms (m ∷ []) in sym (some-within (ms ++ m ∷ []) 0) ∙ lt-ltb 0 (length (ms ++ m ∷ [])) (omega (arith, long))

-- a link that has room for two more had room for one
room-before : (w : ℕ) (ms : List Message) → nat_lt (length (drop 1 ms)) (w - 1) ≡ true → nat_lt (length (drop 1 ms)) w ≡ nat_lt (length ms) w
room-before w ms room =
    let less = ltb-true (length (drop 1 ms)) (w - 1) room in
    let long = length-drop 1 ms in
    lt-ltb (length (drop 1 ms)) w (omega (arith, less)) ∙ sym (lt-ltb (length ms) w (omega (arith, less, long)))

-- Kills that do not come due with one reply more.

le-alike : (n a b : ℕ) → (b ≡ a) ⊎ (b ≡ a + 1) → (n ≡ b → ⊥) → nat_le n b ≡ nat_le n a
le-alike n a b (inl same) other = ap (nat_le n) same
le-alike n a b (inr more) other = elim (cases_lt a n) [
  | inl past ↦ lt-leb n b (omega (arith, more, past, other)) ∙ sym (lt-leb n a past)
  | inr early ↦ le-leb n b (omega (arith, more, early)) ∙ sym (le-leb n a early)
]

due-alike : (v a b : ℕ) → (b ≡ a) ⊎ (b ≡ a + 1) → (kills : List (ℕ × ℕ)) → list_any (λ k. k.1 == b) kills ≡ false →
    option_map_or (λ n. nat_le n b) (option_map (λ (k : ℕ × ℕ). k.1) (find (λ k. k.0 == v) kills)) false
    ≡ option_map_or (λ n. nat_le n a) (option_map (λ (k : ℕ × ℕ). k.1) (find (λ k. k.0 == v) kills)) false
due-alike v a b step [] none = refl
due-alike v a b step (k ∷ kills) none = from (k.0 == v) (due-alike v a b step kills (or-then (k.1 == b) (list_any (λ x. x.1 == b) kills) none))
  where
    from : (test : Bool) → option_map_or (λ n. nat_le n b) (option_map (λ (x : ℕ × ℕ). x.1) (find (λ x. x.0 == v) kills)) false
        ≡ option_map_or (λ n. nat_le n a) (option_map (λ (x : ℕ × ℕ). x.1) (find (λ x. x.0 == v) kills)) false →
        option_map_or (λ n. nat_le n b) (option_map (λ (x : ℕ × ℕ). x.1) (cond test (Some k) (find (λ x. x.0 == v) kills))) false
        ≡ option_map_or (λ n. nat_le n a) (option_map (λ (x : ℕ × ℕ). x.1) (cond test (Some k) (find (λ x. x.0 == v) kills))) false
    from true rest = le-alike k.1 a b step (eqb-false k.1 b (or-first (k.1 == b) (list_any (λ x. x.1 == b) kills) none))
    from false rest = rest

-- What an event leaves as it was.
module _ (T : Setup) (W : World) (e : Event) where
  abbrev x : Step
  x = local_step T e.kernel (side W e.kernel) e.act (input_of W e.kernel e.act)

  abbrev V : World
  V = with_side e.kernel x.side W

  abbrev U : World
  U = after T W e

  -- the world once the message of an act is moved
  abbrev moved : Act → World
  moved act = link_moved e.kernel (side W e.kernel) act V

  abbrev flushed : ℕ → Option Message → World
  flushed j o = option_map_or (λ m. with_link e.kernel j (link V e.kernel j ++ m ∷ []) V) o V

  -- the sides of other kernels
  side-put : (k : ℕ) → (k ≡ e.kernel → ⊥) → side V k ≡ side W k
  side-put k other = get_or-put_other no_side W.sides e.kernel k x.side other

  side-left : (k : ℕ) → (k ≡ e.kernel → ⊥) → side U k ≡ side W k
  unfolding after
  side-left k other =
      ap (λ (sides : List Side). get_or sides k no_side) (moved-sides e.kernel (side W e.kernel) e.act V)
      ∙ side-put k other

  moved-replies : (act : Act) → (moved act).replies ≡ W.replies
  moved-replies (Calls v) = refl
  moved-replies (Resume v) = refl
  moved-replies (Upcall v) = refl
  moved-replies Handle = refl
  moved-replies (Kill v) = refl
  moved-replies (Fetch j) = refl
  moved-replies (Flush j) = waiting (slice_get (outbox (side W e.kernel) j) 0)
    where
      waiting : (o : Option Message) → (flushed j o).replies ≡ W.replies
      waiting None = refl
      waiting (Some m) = refl

  abbrev reply_to : ℕ → Reply
  reply_to code = record { vpe = replied_vpe e.act; code = code }

  -- the number of replies
  replies-left : is_some (entry_of T W e).reply ≡ false → U.replies ≡ W.replies
  unfolding after entry_of local_entry
  replies-left none = counted x.outcome.reply none ∙ moved-replies e.act
    where
      counted : (o : Option ℕ) → is_some (option_map reply_to o) ≡ false → option_map_or (λ code. (moved e.act).replies + 1) o (moved e.act).replies
          ≡ (moved e.act).replies
      counted None no' = refl
      counted (Some code) some = absurd (false≢true (sym some))

  replies-more : (U.replies ≡ W.replies) ⊎ (U.replies ≡ W.replies + 1)
  unfolding after
  replies-more = counted x.outcome.reply
    where
      counted : (o : Option ℕ) → (option_map_or (λ code. (moved e.act).replies + 1) o (moved e.act).replies ≡ W.replies)
          ⊎ (option_map_or (λ code. (moved e.act).replies + 1) o (moved e.act).replies ≡ W.replies + 1)
      counted None = inl (moved-replies e.act)
      counted (Some code) = inr (ap (λ n. n + 1) (moved-replies e.act))

  module _ (k : ℕ) (other : k ≡ e.kernel → ⊥) (apart : touched_peer T U e.kernel e.act ≡ Some k → ⊥) where
    -- a fetch finds a message as before
    abbrev passes : ℕ → World → Bool
    passes j S = is_locally_enabled T k (side W k) (Fetch j) && is_some (slice_get (link S j k) 0)

    -- with a message in its inbox it fetches none
    deaf : (j : ℕ) → is_some (side W k).inbox ≡ true → is_locally_enabled T k (side W k) (Fetch j) ≡ false
    unfolding is_locally_enabled
    deaf j some = ap (λ b. is_other_kernel T k j && b) (some-not (side W k).inbox some) ∙ and-none (is_other_kernel T k j)

    fetch-passes : (j : ℕ) → passes j U ≡ passes j W
    unfolding after
    fetch-passes j = from e.act apart
      where
        from : (act : Act) → (touched_peer T (moved act) e.kernel act ≡ Some k → ⊥) → passes j (moved act) ≡ passes j W
        from (Calls v) far = refl
        from (Resume v) far = refl
        from (Upcall v) far = refl
        from Handle far = refl
        from (Kill v) far = refl
        from (Fetch a) far = ap (λ ms. is_locally_enabled T k (side W k) (Fetch j) && is_some (slice_get ms 0))
            (link_in-other V.links a e.kernel j k (drop 1 (link V a e.kernel)) (λ both. other both.1))
        from (Flush a) far = waiting (slice_get (outbox (side W e.kernel) a) 0) far
          where
            waiting : (o : Option Message) → (touched_peer T (flushed a o) e.kernel (Flush a) ≡ Some k → ⊥) → passes j (flushed a o) ≡ passes j W
            waiting None far = refl
            waiting (Some m) far = elim (cases_eq k a) [
              | inr away ↦ ap (λ ms. is_locally_enabled T k (side W k) (Fetch j) && is_some (slice_get ms 0))
                  (link_in-other V.links e.kernel a j k (link V e.kernel a ++ m ∷ []) (λ both. away both.1))
              | inl to ↦ elim (cases_eq j e.kernel) [
                | inr away ↦ ap (λ ms. is_locally_enabled T k (side W k) (Fetch j) && is_some (slice_get ms 0))
                    (link_in-other V.links e.kernel a j k (link V e.kernel a ++ m ∷ []) (λ both. away both.0))
                | inl own ↦
                    let ms : List Message = link V e.kernel a in
                    let S : World = flushed a (Some m) in
                    let same : link S e.kernel a ≡ ms ++ m ∷ [] = link_in-same V.links e.kernel a (ms ++ m ∷ []) in
                    let there : link S j k ≡ link S e.kernel a = λ q. link S (own q) (to q) in
                    let before : link V j k ≡ ms = λ q. link V (own q) (to q) in
                    let there_side : side V k ≡ side V a = λ q. side V (to q) in
                    elim (or-either (is_some (side S a).inbox) (nat_lt 1 (length (link S e.kernel a)))
                    (spared (is_some (side S a).inbox || nat_lt 1 (length (link S e.kernel a))) a k far to)) [
                      | inl inbox ↦
                          let off = deaf j (ap (λ s. is_some s.inbox) (sym (side-put k other) ∙ there_side) ∙ inbox) in
                          ap (λ b. b && is_some (slice_get (link S j k) 0)) off ∙ sym (ap (λ b. b && is_some (slice_get (link W j k) 0)) off)
                      | inr two ↦
                          let after_two = sym (ap (λ (xs : List Message). nat_lt 1 (length xs)) same) ∙ two in
                          ap (λ b. is_locally_enabled T k (side W k) (Fetch j) && b) (ap (λ xs. is_some (slice_get xs 0)) (there ∙ same)
                          ∙ (one-some ms m ∙ sym (ap (λ xs. is_some (slice_get xs 0)) before ∙ two-some ms m after_two)))
                    ]
              ]
            ]

    -- a flush finds room as before
    flush-passes : (j : ℕ) → nat_lt (length (link U k j)) T.window ≡ nat_lt (length (link W k j)) T.window
    unfolding after
    flush-passes j = from e.act apart
      where
        from : (act : Act) → (touched_peer T (moved act) e.kernel act ≡ Some k → ⊥) →
            nat_lt (length (link (moved act) k j)) T.window ≡ nat_lt (length (link V k j)) T.window
        from (Calls v) far = refl
        from (Resume v) far = refl
        from (Upcall v) far = refl
        from Handle far = refl
        from (Kill v) far = refl
        from (Fetch a) far = elim (cases_eq k a) [
          | inr away ↦ ap (λ (ms : List Message). nat_lt (length ms) T.window)
              (link_in-other V.links a e.kernel k j (drop 1 (link V a e.kernel)) (λ both. away both.0))
          | inl own ↦ elim (cases_eq j e.kernel) [
            | inr away ↦ ap (λ (ms : List Message). nat_lt (length ms) T.window)
                (link_in-other V.links a e.kernel k j (drop 1 (link V a e.kernel)) (λ both. away both.1))
            | inl to ↦
                let ms : List Message = link V a e.kernel in
                let S : World = moved (Fetch a) in
                let same : link S a e.kernel ≡ drop 1 ms = link_in-same V.links a e.kernel (drop 1 ms) in
                let there : link S k j ≡ link S a e.kernel = λ q. link S (own q) (to q) in
                let before : link V k j ≡ ms = λ q. link V (own q) (to q) in
                let room = spared (nat_lt (length (link S a e.kernel)) (T.window - 1)) a k far own in
                ap (λ (xs : List Message). nat_lt (length xs) T.window) (there ∙ same)
                ∙ (room-before T.window ms (sym (ap (λ (xs : List Message). nat_lt (length xs) (T.window - 1)) same) ∙ room)
                ∙ sym (ap (λ (xs : List Message). nat_lt (length xs) T.window) before))
          ]
        ]
        from (Flush a) far = waiting (slice_get (outbox (side W e.kernel) a) 0)
          where
            waiting : (o : Option Message) → nat_lt (length (link (flushed a o) k j)) T.window ≡ nat_lt (length (link V k j)) T.window
            waiting None = refl
            waiting (Some m) =
                ap (λ (ms : List Message). nat_lt (length ms) T.window)
                (link_in-other V.links e.kernel a k j (link V e.kernel a ++ m ∷ []) (λ both. other both.0))

    module _ (replied : Bool) (told : replied ≡ is_some (entry_of T W e).reply) (silent : comes_due T U.replies replied ≡ false) where
      -- an act that is let pass as before is enabled as before
      alike : (act : Act) → (is_locally_enabled T k (side W k) act && is_allowed T U k act) ≡ (is_locally_enabled T k (side W k) act && is_allowed T W k act) →
          is_enabled T U (event k act) ≡ is_enabled T W (event k act)
      unfolding is_enabled
      alike act same =
          ap (λ s. nat_lt k T.kernels && (is_locally_enabled T k s act && is_allowed T U k act)) (side-left k other)
          ∙ ap (λ b. nat_lt k T.kernels && b) same

      handles-alike : filter (is_enabled T U) (event k Handle ∷ []) ≡ filter (is_enabled T W) (event k Handle ∷ [])
      handles-alike = ap (λ b. cond {A = List Event} b (event k Handle ∷ []) []) (alike Handle refl)

      flushes-alike : (j : ℕ) → is_enabled T U (event k (Flush j)) ≡ is_enabled T W (event k (Flush j))
      flushes-alike j = alike (Flush j) (ap (λ b. is_locally_enabled T k (side W k) (Flush j) && b) (flush-passes j))

      kills-due : (v : ℕ) → is_due T U.replies v ≡ is_due T W.replies v
      kills-due v = elim (and-either replied (list_any (λ d. d.1 == U.replies) T.kills) silent) [
        | inl none ↦ ap (λ n. is_due T n v) (replies-left (sym told ∙ none))
        | inr none ↦ due-alike v W.replies U.replies replies-more T.kills none
      ]

      kills-alike : (d : ℕ × ℕ) → is_enabled T U (event k (Kill d.0)) ≡ is_enabled T W (event k (Kill d.0))
      kills-alike d = alike (Kill d.0) (ap (λ b. is_locally_enabled T k (side W k) (Kill d.0) && b) (kills-due d.0))

      -- so the enabled events of the kernel are as before
      pub untouched-same : enabled_of T U k ≡ enabled_of T W k
      untouched-same =
          let p : Event → Bool = is_enabled T U in
          let q : Event → Bool = is_enabled T W in
          let calls : List Event = map (λ (d : VpeDecl). event k (Calls d.vpe)) T.vpes in
          let resumes : List Event = map (λ (d : VpeDecl). event k (Resume d.vpe)) T.vpes in
          let upcalls : List Event = map (λ (d : VpeDecl). event k (Upcall d.vpe)) T.vpes in
          let handles : List Event = event k Handle ∷ [] in
          let fetches : List Event = map (λ j. event k (Fetch j)) (range_with_len 0 T.kernels) in
          let flushes : List Event = map (λ j. event k (Flush j)) (range_with_len 0 T.kernels) in
          let kills : List Event = map (λ (d : ℕ × ℕ). event k (Kill d.0)) T.kills in
          kept-both p q ((((((calls ++ resumes) ++ upcalls) ++ handles) ++ fetches) ++ flushes)) kills
          (kept-both p q (((((calls ++ resumes) ++ upcalls) ++ handles) ++ fetches)) flushes
          (kept-both p q ((((calls ++ resumes) ++ upcalls) ++ handles)) fetches
          (kept-both p q (((calls ++ resumes) ++ upcalls)) handles
          (kept-both p q ((calls ++ resumes)) upcalls
          (kept-both p q calls resumes
          (kept-same p q (λ (d : VpeDecl). event k (Calls d.vpe)) T.vpes (λ d. alike (Calls d.vpe) refl))
          (kept-same p q (λ (d : VpeDecl). event k (Resume d.vpe)) T.vpes (λ d. alike (Resume d.vpe) refl)))
          (kept-same p q (λ (d : VpeDecl). event k (Upcall d.vpe)) T.vpes (λ d. alike (Upcall d.vpe) refl)))
          handles-alike)
          (kept-same p q (λ j. event k (Fetch j)) (range_with_len 0 T.kernels) (λ j. alike (Fetch j) (fetch-passes j))))
          (kept-same p q (λ j. event k (Flush j)) (range_with_len 0 T.kernels) flushes-alike))
          (kept-same p q (λ (d : ℕ × ℕ). event k (Kill d.0)) T.kills kills-alike)
