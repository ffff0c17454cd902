-- What file commands are compiled to is a file service.
use Rattle.std.proofs.Common.{◌≡◌, ◌≢◌, ℕ, ◌+◌, ◌*◌, ◌≤◌, Bool, List, [], ◌∷◌, map, take, filter, length, slice_get, Some, refl, sym, ap, ◌∙◌, subst, inl, inr}
use Rattle.std.proofs.Common.{arith}
use Rattle.std.specs.Prelude.{◌==◌, if◌then◌else◌}
use Rattle.std.specs.List.{Contains, list_any, sum_by}
use Rattle.std.specs.Option.{option_map_or}
use Rattle.std.proofs.lemmas.Bool.{cond-false, cond_both, ne_eqb}
use Rattle.std.proofs.lemmas.List.Sums.{sum_by-cons}
use Rattle.sem_key.specs.declared.limits.TheConstants.{NUMBERS}
use Rattle.sem_msg.specs.declared.call.Call.{Call}
use Rattle.sem_msg.specs.declared.call.Call.TheVariants.{OpenSession}
use Rattle.sem_msg.specs.declared.setup.VpeDecl.{VpeDecl}
use Rattle.sem_msg.specs.Setup.{Setup}
use Rattle.sem_msg.specs.Lookups.{calls_of}
use Rattle.sem_safety.proofs.LiveWorlds.{sum-of_map}
use Rattle.sem_files.specs.declared.files.Command.{Command}
use Rattle.sem_files.specs.Files.{Files, open_count}
use Rattle.sem_files.specs.Compiled.{SERVER, SESSION, rising_clients, server, client, calls_from, client_calls, compiled, AreFiles}
use Rattle.sem_fs.specs.Service.{GIVEN, MayComeNext, gives_where, times_given_by, is_ask, any, numbers_wanted, times_given, IsService}
use Rattle.sem_fs.proofs.ClaimStarts.{sum-le-among}
use Rattle.sem_fs.proofs.Rising.{clients-rise}
use Rattle.sem_fs.proofs.CompiledSetups.{vpes-are, server-declared, server-rests-so, service-served, nothing-denied, nobody-killed, calls-cases}
use Rattle.sem_fs.proofs.CompiledSetups.{roots-of-server, service-root, roots-whole, client-declared, setup-is}
use Rattle.sem_fs.proofs.Ordered.{client-valid, client-ordered}
use Rattle.sem_fs.proofs.Tallies.{tally, tally-cons, sum-plus, sum-once, total, all-tally, total-most, client-most}
use Rattle.sem_fs.proofs.Measures.{opened-is, none-given, once, once-most, once-given, given, given-most, given-grows, opened, opened-grows, opened-most}

module _ (F : Files) (AF : AreFiles F) where
  abbrev T : Setup
  T = compiled F

  pub client-calls-so : (v : ℕ) → Contains (rising_clients F) v → calls_of (compiled F) v ≡ client_calls F v
  client-calls-so v among = ap (λ o. option_map_or (λ (d : VpeDecl). d.calls) o []) (client-declared F AF v among)

  -- What clients are given, over all clients.
  module _ (w : ℕ) (such : ℕ → Bool) where
    p : Call → Bool
    p = gives_where w such

    client-gives : (v : ℕ) → tally (gives_where w such) (client_calls F v) ≤ tally (gives_where w such) (calls_from F v [] F.commands)
    client-gives v = cond_both (list_any (λ (c : Command). c.client == v) F.commands) (OpenSession SESSION 0 ∷ calls_from F v [] F.commands) []
        (λ cs. tally (gives_where w such) cs ≤ tally (gives_where w such) (calls_from F v [] F.commands)) (λ _. omega arith) (λ _. omega arith)

    each-gives : (v : ℕ) → Contains (rising_clients F) v → times_given_by (compiled F) w such (client F v) ≤ tally (gives_where w such) (calls_from F v [] F.commands)
    each-gives v among = let same = ap (tally (gives_where w such)) (client-calls-so v among) in let most = client-gives v in omega (arith, same, most)

    pub times-most : times_given (compiled F) w such ≤ total F AF (gives_where w such) [] F.commands
    times-most =
        let vpes = ap (sum_by (times_given_by (compiled F) w such)) (vpes-are F) in
        let parts = sum_by-cons (times_given_by (compiled F) w such) (server F) (map (client F) (rising_clients F)) in
        let none = ap (tally (gives_where w such)) (server-rests-so F) in
        let mapped = sum-of_map (times_given_by (compiled F) w such) (client F) (rising_clients F) in
        let each = sum-le-among (λ v. times_given_by (compiled F) w such (client F v)) (λ v. tally (gives_where w such) (calls_from F v [] F.commands))
        (rising_clients F)
        each-gives in
        let all = all-tally F AF (gives_where w such) (rising_clients F) (clients-rise F AF) [] F.commands in
        sums (times_given (compiled F) w such) (sum_by (times_given_by (compiled F) w such) (server F ∷ map (client F) (rising_clients F)))
        (times_given_by (compiled F) w such (server F)) (sum_by (times_given_by (compiled F) w such) (map (client F) (rising_clients F)))
        (sum_by (λ v. times_given_by (compiled F) w such (client F v)) (rising_clients F))
        (sum_by (λ v. tally (gives_where w such) (calls_from F v [] F.commands)) (rising_clients F)) (total F AF (gives_where w such) [] F.commands) vpes parts
        none
        mapped each all
      where
        sums : (a b c d e f g : ℕ) → a ≡ b → b ≡ c + d → c ≡ 0 → d ≡ e → e ≤ f → f ≤ g → a ≤ g
        sums a b c d e f g one two three four five six = omega (arith, one, two, three, four, five, six)

  given-once : (w dst : ℕ) → GIVEN ≤ dst → times_given (compiled F) w (λ sel. sel == dst) ≤ 1
  given-once w dst far =
      let times = times-most w (λ sel. sel == dst) in
      let most = total-most F AF (gives_where w (λ sel. sel == dst)) (once F AF w dst far) (once-given F AF w dst far) [] F.commands refl in
      let one = once-most F AF w dst far F.commands in
      sums (times_given (compiled F) w (λ sel. sel == dst)) (total F AF (gives_where w (λ sel. sel == dst)) [] F.commands) (once F AF w dst far [])
      (once F AF w dst far F.commands) times most one
    where
      sums : (a b c d : ℕ) → a ≤ b → b + c ≤ d → d ≤ 1 → a ≤ 1
      sums a b c d one two three = omega (arith, one, two, three)

  nothing-given : times_given (compiled F) SERVER any ≡ 0
  nothing-given =
      let times = times-most SERVER any in
      let most = total-most F AF (gives_where SERVER any) (λ before. 0) (none-given F AF) [] F.commands refl in
      sums (times_given (compiled F) SERVER any) (total F AF (gives_where SERVER any) [] F.commands) times most
    where
      sums : (a b : ℕ) → a ≤ b → b + 0 ≤ 0 → a ≡ 0
      sums a b one two = omega (arith, one, two)

  -- Numbers.
  module _ (w : ℕ) (other : w ≢ SERVER) where
    asked : ℕ
    asked = length (filter is_ask (calls_of (compiled F) w))

    asks-most : length (filter is_ask (calls_of (compiled F) w)) ≤ 4001
    asks-most = elim (calls-cases F w) [
      | inl none ↦ (let same = ap (λ cs. length (filter is_ask cs)) none in omega (arith, same))
      | inr (among, is) ↦
          let same = ap (tally is_ask) is in
          let most = client-most F AF is_ask w (opened F AF w) (opened-grows F AF w) [] F.commands refl in
          let few = opened-most F AF w [] F.commands refl (omega arith) in
          sums (tally is_ask (calls_of (compiled F) w)) (tally is_ask (client_calls F w)) (tally is_ask (calls_from F w [] F.commands)) (opened F AF w [])
          (opened F AF w F.commands) (open_count F.commands w) same first most (opened-is F AF w F.commands) few
    ]
      where
        first : tally is_ask (client_calls F w) ≤ 1 + tally is_ask (calls_from F w [] F.commands)
        first = cond_both (list_any (λ (c : Command). c.client == w) F.commands) (OpenSession SESSION 0 ∷ calls_from F w [] F.commands) []
            (λ cs. tally is_ask cs ≤ 1 + tally is_ask (calls_from F w [] F.commands))
            (λ _. (let a = tally-cons is_ask (OpenSession SESSION 0) (calls_from F w [] F.commands) in omega (arith, a))) (λ _. omega arith)

        sums : (a b c d e k : ℕ) → a ≡ b → b ≤ 1 + c → c + d ≤ e → e ≡ 4 * k → k ≤ 1000 → a ≤ 4001
        sums a b c d e k one two three four five = omega (arith, one, two, three, four, five)

    abbrev own : VpeDecl → ℕ
    own d = if d.vpe == w then length (filter is_ask (calls_of (compiled F) w)) else 0

    own-most : sum_by own (compiled F).vpes ≤ 4001
    own-most =
        let vpes = ap (sum_by own) (vpes-are F) in
        let parts = sum_by-cons own (server F) (map (client F) (rising_clients F)) in
        let none = cond-false (SERVER == w) (length (filter is_ask (calls_of (compiled F) w))) 0 (ne_eqb SERVER w (λ same. other (sym same))) in
        let mapped = sum-of_map own (client F) (rising_clients F) in
        let one = sum-once (λ v. own (client F v)) w 4001 (rising_clients F) (clients-rise F AF)
        (λ v away. cond-false (v == w) (length (filter is_ask (calls_of (compiled F) w))) 0 (ne_eqb v w (λ same. away (sym same)))) at-own in
        sums (sum_by own (compiled F).vpes) (sum_by own (server F ∷ map (client F) (rising_clients F))) (own (server F))
        (sum_by own (map (client F) (rising_clients F))) (sum_by (λ v. own (client F v)) (rising_clients F)) vpes parts none mapped one
      where
        at-own : own (client F w) ≤ 4001
        at-own = cond_both (w == w) (length (filter is_ask (calls_of (compiled F) w))) 0 (λ n. n ≤ 4001) (λ _. asks-most) (λ _. omega arith)

        sums : (a b c d e : ℕ) → a ≡ b → b ≡ c + d → c ≡ 0 → d ≡ e → e ≤ 4001 → a ≤ 4001
        sums a b c d e one two three four five = omega (arith, one, two, three, four, five)

    pub numbers-few : numbers_wanted (compiled F) w ≤ NUMBERS
    numbers-few =
        let both = sum-plus (times_given_by (compiled F) w any) own (compiled F).vpes in
        let times = times-most w any in
        let most = total-most F AF (gives_where w any) (given F AF w) (given-grows F AF w) [] F.commands refl in
        let few = given-most F AF w F.commands in
        let own' = own-most in
        sums (numbers_wanted (compiled F) w) (times_given (compiled F) w any) (sum_by own (compiled F).vpes) (total F AF (gives_where w any) [] F.commands)
        (given F AF w []) (given F AF w F.commands) both times most few own'
      where
        sums : (a b c d e f : ℕ) → a ≡ b + c → b ≤ d → d + e ≤ f → f ≤ 64 → c ≤ 4001 → a ≤ 4096
        sums a b c d e f one two three four five = omega (arith, one, two, three, four, five)

  in-order : (v n : ℕ) (c : Call) → slice_get (calls_of (compiled F) v) n ≡ Some c → MayComeNext (compiled F) v (take n (calls_of (compiled F) v)) c
  in-order v n c some = elim (calls-cases F v) [
    | inl none ↦ absurd (nothing (calls_of (compiled F) v) none some)
    | inr (among, is) ↦ subst (λ cs. MayComeNext (compiled F) v (take n cs) c) (sym is) (client-ordered F AF v n c (sym (ap (λ cs. slice_get cs n) is) ∙ some))
  ]
    where
      nothing : (cs : List Call) → cs ≡ [] → slice_get cs n ≡ Some c → ⊥
      nothing [] same none = absurd cc
      nothing (x ∷ cs) same some' = absurd cc

  -- A compiled setup is a service.
  pub is-service : IsService (compiled F)
  is-service = record {
    setup = setup-is F AF (λ v among. client-valid F AF v);
    server = server F;
    declared = server-declared F;
    roots = roots-of-server F;
    rests = server-rests-so F;
    served = service-served F;
    service_is_root = service-root F;
    whole = roots-whole F;
    no_denies = nothing-denied F;
    no_kills = nobody-killed F;
    calls = in-order;
    given_once = given-once;
    ungiven = nothing-given;
    numbers = λ w other. numbers-few w other;
  }
