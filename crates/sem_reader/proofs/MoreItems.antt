-- Lists that are built item by item.
use Rattle.std.proofs.Common.{◌≡◌, ℕ, suc, ◌+◌, ◌<◌, List, [], ◌∷◌, ◌++◌, length, length-take, take, get_or, Option, Some, None, refl, ap, ◌∙◌, arith}
use Rattle.std.proofs.Common.{append_assoc, append-nil}
use Rattle.std.specs.List.{filter_map, flat_map, cons_option}
use Rattle.std.specs.Option.{option_to_list}
use Rattle.std.proofs.lemmas.List.{take_more}
use Rattle.sem_msg.specs.declared.setup.Root.{Root}
use Rattle.sem_msg.specs.declared.setup.Service.{Service}
use Rattle.sem_msg.specs.declared.setup.VpeDecl.{VpeDecl}
use Rattle.sem_msg.specs.Setup.{services_from, service_with, root_key}
use Rattle.sem_trace.specs.Refusal.{numbers}
use Rattle.sem_trace.proofs.ReadText.{numbers-more}

cons_option-append : {Y : Type 0} (o : Option Y) (ys zs : List Y) → cons_option o (ys ++ zs) ≡ cons_option o ys ++ zs
cons_option-append None ys zs = refl
cons_option-append (Some x) ys zs = refl

one_option : {Y : Type 0} (o : Option Y) → cons_option o [] ≡ option_to_list o
one_option None = refl
one_option (Some x) = refl

filter_map-push : {X Y : Type 0} (h : X → Option Y) (xs : List X) (x : X) → filter_map h (xs ++ x ∷ []) ≡ filter_map h xs ++ option_to_list (h x)
filter_map-push h [] x = one_option (h x)
filter_map-push h (y ∷ ys) x = ap (cons_option (h y)) (filter_map-push h ys x) ∙ cons_option-append (h y) (filter_map h ys) (option_to_list (h x))

flat_map-push : {X Y : Type 0} (h : X → List Y) (xs : List X) (x : X) → flat_map h (xs ++ x ∷ []) ≡ flat_map h xs ++ h x
flat_map-push h [] x = rw append-nil refl
flat_map-push h (y ∷ ys) x = ap (λ zs. h y ++ zs) (flat_map-push h ys x) ∙ (rw append_assoc refl)

-- what h gives of one number more
pub more_number : {Y : Type 0} (h : ℕ → Option Y) (n : ℕ) (o : Option Y) (before now after : List Y) → now ≡ before ++ filter_map h (numbers n) →
    after ≡ now ++ option_to_list o → o ≡ h n → after ≡ before ++ filter_map h (numbers (n + 1))
more_number h n o before now after so_far more is =
    rw (more, so_far, is, numbers-more n, filter_map-push h (numbers n) n, append_assoc) refl

-- what h gives of one item more
pub more_item : {X Y : Type 0} (h : X → Option Y) (xs : List X) (i : ℕ) (x : X) (o : Option Y) (before now after : List Y) → i < length xs → x ≡ get_or xs i x →
    now ≡ before ++ filter_map h (take i xs) → after ≡ now ++ option_to_list o → o ≡ h x → after ≡ before ++ filter_map h (take (i + 1) xs)
more_item h xs i x o before now after within here so_far more is =
    rw (more, so_far, is, take_more xs i x within, ← here, filter_map-push h (take i xs) x, append_assoc) refl

-- the list that h gives of one item more
pub more_list : {X Y : Type 0} (h : X → List Y) (xs : List X) (i : ℕ) (x : X) (now after : List Y) → i < length xs → x ≡ get_or xs i x →
    now ≡ flat_map h (take i xs) → after ≡ now ++ h x → after ≡ flat_map h (take (i + 1) xs)
more_list h xs i x now after within here so_far more =
    rw (more, so_far, take_more xs i x within, ← here, flat_map-push h (take i xs) x) refl

services_from-push : (d : VpeDecl) (n : ℕ) (rs : List Root) (r : Root) →
    services_from d n (rs ++ r ∷ []) ≡ services_from d n rs ++ service_with r.object (root_key d (n + length rs) r)
unfolding services_from
services_from-push d n [] r = let e : n + 0 ≡ n = omega arith in rw (e, append-nil) refl
services_from-push d n (s ∷ rs) r =
    let e : n + suc (length rs) ≡ (n + 1) + length rs = omega arith in
    rw (e, services_from-push d (n + 1) rs r, append_assoc) refl

pub services_from-none : (d : VpeDecl) (n : ℕ) → services_from d n [] ≡ []
unfolding services_from
services_from-none d n = refl

-- the services among one root more
pub more_services : (d : VpeDecl) (rs : List Root) (i : ℕ) (r : Root) (o : Option Service) (before now after : List Service) → i < length rs →
    r ≡ get_or rs i r → now ≡ before ++ services_from d 0 (take i rs) → after ≡ now ++ option_to_list o →
    option_to_list o ≡ service_with r.object (root_key d i r) → after ≡ before ++ services_from d 0 (take (i + 1) rs)
more_services d rs i r o before now after within here so_far more is =
    let long : 0 + length (take i rs) ≡ i = omega (arith, length-take i rs) in
    rw (more, so_far, is, take_more rs i r within, ← here, services_from-push d 0 (take i rs) r, long, append_assoc) refl
