-- A printed setup has few lines, and each of them is short and plain.
use Rattle.std.proofs.Common.{◌≡◌, ℕ, suc, ◌+◌, ◌*◌, ◌<◌, ◌≤◌, ◌==◌, inl, inr, Bool, true, ◌&&◌, List, [], ◌∷◌, ◌++◌, length, map, Option, Some, None, refl, ap}
use Rattle.std.proofs.Common.{sym, ◌∙◌, subst, arith, decimal, length-append, append_assoc}
use Rattle.std.specs.Prelude.{codes}
use Rattle.std.specs.List.{All, Contains, filter_map, flat_map, enumerate_from, range_with_len, cons_option, sum_by}
use Rattle.std.proofs.lemmas.Bool.{cases_Bool}
use Rattle.std.proofs.lemmas.Fmt.{length-decimal-le}
use Rattle.std.proofs.lemmas.List.{length-map}
use Rattle.std.proofs.lemmas.List.FromFn.{length-range_with_len}
use Rattle.std.proofs.lemmas.List.Sums.{sum_by-cons}
use Rattle.std.proofs.lemmas.List.Elements.{All-contains, All-head, All-tail}
use Rattle.sem_key.specs.declared.object.Object.{Object}
use Rattle.sem_key.specs.declared.object.Object.TheVariants.{Mem, Recv, Send, Serv, Sess}
use Rattle.sem_msg.specs.declared.call.Call.{Call}
use Rattle.sem_msg.specs.declared.call.Call.TheVariants.{Derive, Gate, Obtain, Delegate, OpenSession, AskOffer, Revoke, Bind, Read, Write, Send as SendCall}
use Rattle.sem_msg.specs.declared.call.Call.TheVariants.{Credit, Exit, Clear}
use Rattle.sem_msg.specs.Calls.{IsValidCall}
use Rattle.sem_msg.specs.declared.setup.Root.{Root}
use Rattle.sem_msg.specs.declared.setup.Service.{Service as ServiceData}
use Rattle.sem_msg.specs.declared.setup.Offer.{Offer as OfferData}
use Rattle.sem_msg.specs.declared.setup.VpeDecl.{VpeDecl}
use Rattle.sem_msg.specs.Setup.{Setup, IsSetup, IsRoot, IsRootObject, IsVpeDecl, call_count}
use Rattle.sem_key.specs.declared.limits.TheConstants.{KERNELS, VPES}
use Rattle.sem_msg.specs.Versions.{most_vpes}
use Rattle.sem_trace.specs.declared.declaration.Declaration.{Declaration}
use Rattle.sem_trace.specs.declared.declaration.Declaration.TheVariants.{Kernels, Window, Pe, Vpe, Memory, Receive, Service, Offer, Deny, Kill, Call as Calls}
use Rattle.sem_trace.specs.declared.declaration.Declaration.TheVariants.{End}
use Rattle.sem_trace.specs.Words.{call_words}
use Rattle.sem_trace.specs.TextLines.{is_significant}
use Rattle.sem_trace.specs.TraceText.{pe_line, vpe_line, root_line_of, root_line, offer_line, deny_line, kill_line, window_lines, trace_lines}
use Rattle.sem_trace.specs.Earlier.{vpe_in}
use Rattle.sem_trace.specs.Ranges.{IsInRange}
use Rattle.sem_trace.specs.Refusal.{numbers}
use Rattle.sem_trace.specs.SetupOfText.{vpes_of, named, services_among, services_of, offer_of, offers_of, deny_of, denies_of, kills_of}
use Rattle.sem_trace.proofs.Nodes.{node_small}
use Rattle.sem_reader.proofs.Enumerated.{here, there}
use Rattle.sem_reader.proofs.PlainText.{is_plain_word, are_plain, width, plain-decimal}
use Rattle.sem_reader.proofs.PrintedLines.{IsSaid, spelled, window_small}
use Rattle.sem_reader.proofs.Sections.{root_says, root_decl, pe_decls, window_decls, all_pes, vpe_decl, offer_decl, deny_decl, kill_decl, section, said_by}
use Rattle.sem_reader.proofs.SetupIs.{few_roots}
use Rattle.sem_reader.proofs.Canonical.{same_vpes, same_services, same_offers, same_denies, same_kills}

-- plain words that are no wider than so much
pub record IsShort (n : ℕ) (ws : List (List ℕ)) : Type 0 where
  pub plain : are_plain ws ≡ true
  pub narrow : width ws ≤ n

both : (a b : Bool) → a ≡ true → b ≡ true → (a && b) ≡ true
both a b x y = rw (x, y) refl

none : IsShort 0 []
none = record { plain = refl; narrow = omega arith }

fixed : (w : List ℕ) (k n : ℕ) (ws : List (List ℕ)) → length w ≡ k → is_plain_word w ≡ true → IsShort n ws → IsShort (1 + k + n) (w ∷ ws)
fixed w k n ws long plain rest = record {
  plain = both (is_plain_word w) (are_plain ws) plain rest.plain;
  narrow = let m : width ws ≤ n = rest.narrow in
      omega arith;
}

small : (x n : ℕ) (ws : List (List ℕ)) → x ≤ 255 → IsShort n ws → IsShort (4 + n) (decimal x ∷ ws)
small x n ws low rest = record {
  plain = both (is_plain_word (decimal x)) (are_plain ws) (plain-decimal x (omega arith)) rest.plain;
  narrow = let m : width ws ≤ n = rest.narrow in let l = length-decimal-le 3 x (omega arith) (omega arith) (omega arith) in omega arith;
}

great : (x n : ℕ) (ws : List (List ℕ)) → x ≤ 4294967295 → IsShort n ws → IsShort (11 + n) (decimal x ∷ ws)
great x n ws low rest = record {
  plain = both (is_plain_word (decimal x)) (are_plain ws) (plain-decimal x (omega arith)) rest.plain;
  narrow = let m : width ws ≤ n = rest.narrow in let l = length-decimal-le 10 x (omega arith) (omega arith) (omega arith) in omega arith;
}

wider : (n m : ℕ) (ws : List (List ℕ)) → n ≤ m → IsShort n ws → IsShort m ws
wider n m ws le rest = record { plain = rest.plain; narrow = let k : width ws ≤ n = rest.narrow in omega arith }

call_short : (version : ℕ) (c : Call) → IsValidCall (most_vpes version) c → IsShort 50 (call_words c)
call_short version (Derive src dst off len rights) valid =
    let a : src < 256 = valid.0 in
    let b : dst < 256 = valid.1 in
    let c : off ≤ 4294967295 = valid.2 in
    let d : len ≤ 4294967295 = valid.3 in
    let e : rights ≤ 7 = valid.4 in
    wider _ 50 _ (omega arith)
    (fixed (codes "derive") 6 _ _ refl refl
    (small src _ _ (omega arith)
    (small dst _ _ (omega arith) (great off _ _ (omega arith) (great len _ _ (omega arith) (small rights _ _ (omega arith) none))))))
call_short version (Gate src dst label credits) valid =
    let a : src < 256 = valid.0 in
    let b : dst < 256 = valid.1 in
    let c : label ≤ 4294967295 = valid.2 in
    let d : credits ≤ 64 = valid.4 in
    wider _ 50 _ (omega arith)
    (fixed (codes "gate") 4 _ _ refl refl
    (small src _ _ (omega arith) (small dst _ _ (omega arith) (great label _ _ (omega arith) (small credits _ _ (omega arith) none)))))
call_short version (Obtain dst vpe src) valid =
    let a : dst < 256 = valid.0 in
    let b : vpe < VPES = node_small version vpe valid.1 in
    let c : src < 256 = valid.2 in
    wider _ 50 _ (omega arith)
    (fixed (codes "obtain") 6 _ _ refl refl (small dst _ _ (omega arith) (small vpe _ _ (omega arith) (small src _ _ (omega arith) none))))
call_short version (Delegate src vpe dst) valid =
    let a : src < 256 = valid.0 in
    let b : vpe < VPES = node_small version vpe valid.1 in
    let c : dst < 256 = valid.2 in
    wider _ 50 _ (omega arith)
    (fixed (codes "delegate") 8 _ _ refl refl (small src _ _ (omega arith) (small vpe _ _ (omega arith) (small dst _ _ (omega arith) none))))
call_short version (OpenSession dst name) valid =
    let a : dst < 256 = valid.0 in
    let b : name ≤ 255 = valid.1 in
    wider _ 50 _ (omega arith) (fixed (codes "open") 4 _ _ refl refl (small dst _ _ (omega arith) (small name _ _ (omega arith) none)))
call_short version (AskOffer dst session index) valid =
    let a : dst < 256 = valid.0 in
    let b : session < 256 = valid.1 in
    let c : index ≤ 255 = valid.2 in
    wider _ 50 _ (omega arith)
    (fixed (codes "ask") 3 _ _ refl refl (small dst _ _ (omega arith) (small session _ _ (omega arith) (small index _ _ (omega arith) none))))
call_short version (Revoke src) valid =
    let a : src < 256 = valid in
    wider _ 50 _ (omega arith) (fixed (codes "revoke") 6 _ _ refl refl (small src _ _ (omega arith) none))
call_short version (Bind ep src) valid =
    let a : ep < 16 = valid.0 in
    let b : src < 256 = valid.1 in
    wider _ 50 _ (omega arith) (fixed (codes "bind") 4 _ _ refl refl (small ep _ _ (omega arith) (small src _ _ (omega arith) none)))
call_short version (Read ep off len) valid =
    let a : ep < 16 = valid.0 in
    let b : off ≤ 4294967295 = valid.1 in
    let c : len ≤ 4294967295 = valid.2 in
    wider _ 50 _ (omega arith)
    (fixed (codes "read") 4 _ _ refl refl (small ep _ _ (omega arith) (great off _ _ (omega arith) (great len _ _ (omega arith) none))))
call_short version (Write ep off len) valid =
    let a : ep < 16 = valid.0 in
    let b : off ≤ 4294967295 = valid.1 in
    let c : len ≤ 4294967295 = valid.2 in
    wider _ 50 _ (omega arith)
    (fixed (codes "write") 5 _ _ refl refl (small ep _ _ (omega arith) (great off _ _ (omega arith) (great len _ _ (omega arith) none))))
call_short version (SendCall ep len) valid =
    let a : ep < 16 = valid.0 in
    let b : len ≤ 4294967295 = valid.1 in
    wider _ 50 _ (omega arith) (fixed (codes "send") 4 _ _ refl refl (small ep _ _ (omega arith) (great len _ _ (omega arith) none)))
call_short version (Credit ep) valid =
    let a : ep < 16 = valid in
    wider _ 50 _ (omega arith) (fixed (codes "credit") 6 _ _ refl refl (small ep _ _ (omega arith) none))
call_short version Exit valid = wider _ 50 _ (omega arith) (fixed (codes "exit") 4 _ _ refl refl none)
call_short version (Clear src) valid =
    let a : src < 256 = valid in
    wider _ 50 _ (omega arith) (fixed (codes "clear") 5 _ _ refl refl (small src _ _ (omega arith) none))

-- a printed line
pub line_short : (version k : ℕ) (d : Declaration) → k ≤ KERNELS → IsInRange version k d → IsSaid version d → IsShort 60 (spelled d)
line_short version k (Kernels n) few ranges said = absurd said
line_short version k (Window w) few ranges said =
    let a : w ≤ 32 = window_small version w ranges in
    wider _ 60 _ (omega arith) (fixed (codes "window") 6 _ _ refl refl (small w _ _ (omega arith) none))
line_short version k (Pe p j) few ranges said =
    let a : p < VPES = node_small version p ranges.0 in
    let b : j < k = ranges.1 in
    wider _ 60 _ (omega arith) (fixed (codes "pe") 2 _ _ refl refl (small p _ _ (omega arith) (small j _ _ (omega arith) none)))
line_short version k (Vpe v p) few ranges said =
    let a : v < VPES = node_small version v ranges.0 in
    let b : p < VPES = node_small version p ranges.1 in
    wider _ 60 _ (omega arith) (fixed (codes "vpe") 3 _ _ refl refl (small v _ _ (omega arith) (small p _ _ (omega arith) none)))
line_short version k (Memory v s b l g) few ranges said =
    let a : v < VPES = node_small version v ranges.0 in
    let c : s < 256 = ranges.1 in
    let d : b ≤ 4294967295 = ranges.2 in
    let e : l ≤ 4294967295 = ranges.3 in
    let f : g ≤ 7 = ranges.4 in
    wider _ 60 _ (omega arith)
    (fixed (codes "root") 4 _ _ refl refl
    (small v _ _ (omega arith)
    (small s _ _ (omega arith)
    (fixed (codes "mem") 3 _ _ refl refl (great b _ _ (omega arith) (great l _ _ (omega arith) (small g _ _ (omega arith) none)))))))
line_short version k (Receive v s n) few ranges said =
    let a : v < VPES = node_small version v ranges.0 in
    let c : s < 256 = ranges.1 in
    let d : n ≤ 64 = ranges.3 in
    wider _ 60 _ (omega arith)
    (fixed (codes "root") 4 _ _ refl refl
    (small v _ _ (omega arith) (small s _ _ (omega arith) (fixed (codes "recv") 4 _ _ refl refl (small n _ _ (omega arith) none)))))
line_short version k (Service v s n) few ranges said =
    let a : v < VPES = node_small version v ranges.0 in
    let c : s < 256 = ranges.1 in
    let d : n ≤ 255 = ranges.2 in
    wider _ 60 _ (omega arith)
    (fixed (codes "service") 7 _ _ refl refl (small v _ _ (omega arith) (small s _ _ (omega arith) (small n _ _ (omega arith) none))))
line_short version k (Offer n i s) few ranges said =
    let a : n ≤ 255 = ranges.0 in
    let c : i ≤ 255 = ranges.1 in
    let d : s < 256 = ranges.2 in
    wider _ 60 _ (omega arith) (fixed (codes "offer") 5 _ _ refl refl (small n _ _ (omega arith) (small i _ _ (omega arith) (small s _ _ (omega arith) none))))
line_short version k (Deny v w) few ranges said =
    let a : v < VPES = node_small version v ranges.0 in
    let c : w < VPES = node_small version w ranges.1 in
    wider _ 60 _ (omega arith) (fixed (codes "deny") 4 _ _ refl refl (small v _ _ (omega arith) (small w _ _ (omega arith) none)))
line_short version k (Kill v n) few ranges said =
    let a : v < VPES = node_small version v ranges.0 in
    let c : n ≤ 4294967295 = ranges.1 in
    wider _ 60 _ (omega arith) (fixed (codes "kill") 4 _ _ refl refl (small v _ _ (omega arith) (great n _ _ (omega arith) none)))
line_short version k (Calls v c) few ranges said =
    let a : v < VPES = node_small version v ranges.0 in
    wider _ 60 _ (omega arith) (fixed (codes "call") 4 _ _ refl refl (small v _ _ (omega arith) (call_short version c ranges.1)))
line_short version k End few ranges said = wider _ 60 _ (omega arith) (fixed (codes "end") 3 _ _ refl refl none)

pub kernels_short : (n : ℕ) → n ≤ KERNELS → IsShort 60 (codes "kernels" ∷ decimal n ∷ [])
kernels_short n few = wider _ 60 _ (omega arith) (fixed (codes "kernels") 7 _ _ refl refl (small n _ _ (omega arith) none))

pub first_short : (n : ℕ) → n ≤ 2 → IsShort 60 (codes "semper" ∷ codes "trace" ∷ decimal n ∷ [])
first_short n few = wider _ 60 _ (omega arith) (fixed (codes "semper") 6 _ _ refl refl (fixed (codes "trace") 5 _ _ refl refl (small n _ _ (omega arith) none)))

-- a printed line says something
pub line_significant : (version : ℕ) (d : Declaration) → IsSaid version d → is_significant (spelled d) ≡ true
line_significant version (Kernels n) said = absurd said
line_significant version (Window w) said = refl
line_significant version (Pe p k) said = refl
line_significant version (Vpe v p) said = refl
line_significant version (Memory v s b l g) said = refl
line_significant version (Receive v s n) said = refl
line_significant version (Service v s n) said = refl
line_significant version (Offer n i s) said = refl
line_significant version (Deny v w) said = refl
line_significant version (Kill v n) said = refl
line_significant version (Calls v c) said = refl
line_significant version End said = refl

-- the words of all lines
abbrev pub all_lines : Setup → List (List (List ℕ))
all_lines T = (codes "semper" ∷ codes "trace" ∷ decimal T.version ∷ []) ∷ (codes "kernels" ∷ decimal T.kernels ∷ []) ∷ map spelled (said_by T)

map-joined : (xs ys : List Declaration) → map spelled (xs ++ ys) ≡ map spelled xs ++ map spelled ys
map-joined [] ys = refl
map-joined (x ∷ xs) ys = ap (λ zs. spelled x ∷ zs) (map-joined xs ys)

join : (xs ys : List Declaration) (a b : List (List (List ℕ))) → map spelled xs ≡ a → map spelled ys ≡ b → map spelled (xs ++ ys) ≡ a ++ b
join xs ys a b x y = map-joined xs ys ∙ (rw (x, y) refl)

pes_spelled : (ps : List (ℕ × Option ℕ)) → map spelled (flat_map pe_decls ps) ≡ flat_map pe_line ps
pes_spelled [] = refl
pes_spelled ((p, None) ∷ ps) = pes_spelled ps
pes_spelled ((p, Some k) ∷ ps) = ap (λ zs. (codes "pe" ∷ decimal p ∷ decimal k ∷ []) ∷ zs) (pes_spelled ps)

-- the line of the window
window_spelled : (T : Setup) → map spelled (window_decls T) ≡ window_lines T
window_spelled T =
    elim (cases_Bool (T.version == 1)) [
      | inl one ↦ rw one refl
      | inr other ↦ rw other refl
    ]

vpes_spelled : (vs : List VpeDecl) → map spelled (map vpe_decl vs) ≡ map vpe_line vs
vpes_spelled [] = refl
vpes_spelled (v ∷ vs) = ap (λ zs. vpe_line v ∷ zs) (vpes_spelled vs)

root_spelled : (v s : ℕ) (o : Object) → IsRootObject o → spelled (root_says v s o) ≡ root_line_of v s o
root_spelled v s (Mem b l g) valid = refl
root_spelled v s (Recv n) valid = refl
root_spelled v s (Serv n) valid = refl
root_spelled v s (Send g l c) valid = absurd valid
root_spelled v s (Sess k i) valid = absurd valid

roots_of_one : (v : ℕ) (rs : List Root) → All IsRoot rs → map spelled (map (root_decl v) rs) ≡ map (root_line v) rs
roots_of_one v [] all = refl
roots_of_one v (r ∷ rs) all = rw (root_spelled v r.sel r.object (All-head IsRoot r rs all).kind, roots_of_one v rs (All-tail IsRoot r rs all)) refl

roots_spelled : (vs : List VpeDecl) → ((d : VpeDecl) → Contains vs d → All IsRoot d.roots) →
    map spelled (flat_map (λ (d : VpeDecl). map (root_decl d.vpe) d.roots) vs) ≡ flat_map (λ (d : VpeDecl). map (root_line d.vpe) d.roots) vs
roots_spelled [] all = refl
roots_spelled (v ∷ vs) all = join (map (root_decl v.vpe) v.roots) (flat_map (λ (d : VpeDecl). map (root_decl d.vpe) d.roots) vs) (map (root_line v.vpe) v.roots)
    (flat_map (λ (d : VpeDecl). map (root_line d.vpe) d.roots) vs) (roots_of_one v.vpe v.roots (all v (here v vs)))
    (roots_spelled vs (λ d within. all d (there v vs d within)))

offers_spelled : (os : List OfferData) → map spelled (map offer_decl os) ≡ map offer_line os
offers_spelled [] = refl
offers_spelled (o ∷ os) = ap (λ zs. offer_line o ∷ zs) (offers_spelled os)

denies_spelled : (ps : List (ℕ × ℕ)) → map spelled (map deny_decl ps) ≡ map deny_line ps
denies_spelled [] = refl
denies_spelled (p ∷ ps) = ap (λ zs. deny_line p ∷ zs) (denies_spelled ps)

kills_spelled : (ps : List (ℕ × ℕ)) → map spelled (map kill_decl ps) ≡ map kill_line ps
kills_spelled [] = refl
kills_spelled (p ∷ ps) = ap (λ zs. kill_line p ∷ zs) (kills_spelled ps)

calls_of_one : (v : ℕ) (cs : List Call) → map spelled (map (Calls v) cs) ≡ map (λ (c : Call). codes "call" ∷ decimal v ∷ call_words c) cs
calls_of_one v [] = refl
calls_of_one v (c ∷ cs) = ap (λ zs. (codes "call" ∷ decimal v ∷ call_words c) ∷ zs) (calls_of_one v cs)

calls_spelled : (vs : List VpeDecl) →
    map spelled (flat_map (λ (d : VpeDecl). map (Calls d.vpe) d.calls) vs)
    ≡ flat_map (λ (d : VpeDecl). map (λ (c : Call). codes "call" ∷ decimal d.vpe ∷ call_words c) d.calls) vs
calls_spelled [] = refl
calls_spelled (v ∷ vs) = join (map (Calls v.vpe) v.calls) (flat_map (λ (d : VpeDecl). map (Calls d.vpe) d.calls) vs)
    (map (λ (c : Call). codes "call" ∷ decimal v.vpe ∷ call_words c) v.calls)
    (flat_map (λ (d : VpeDecl). map (λ (c : Call). codes "call" ∷ decimal d.vpe ∷ call_words c) d.calls) vs) (calls_of_one v.vpe v.calls) (calls_spelled vs)

said_nested : (T : Setup) →
    said_by T ≡ section T 0 ++ (section T 1 ++ (section T 2 ++ (section T 3 ++ (section T 4 ++ (section T 5 ++ (section T 6 ++ End ∷ []))))))
unfolding said_by
said_nested T = refl

all_eight : (a b c d e f g h : List Declaration) → a ++ (b ++ (c ++ (d ++ (e ++ (f ++ (g ++ h)))))) ≡ a ++ b ++ c ++ d ++ e ++ f ++ g ++ h
all_eight a b c d e f g h = rw (append_assoc, append_assoc, append_assoc, append_assoc, append_assoc, append_assoc) refl

said_flat : (T : Setup) → said_by T ≡ section T 0 ++ section T 1 ++ section T 2 ++ section T 3 ++ section T 4 ++ section T 5 ++ section T 6 ++ End ∷ []
said_flat T = said_nested T ∙ all_eight (section T 0) (section T 1) (section T 2) (section T 3) (section T 4) (section T 5) (section T 6) (End ∷ [])

sections_spelled : (T : Setup) → IsSetup T → map spelled (said_by T) ≡ window_lines T ++ flat_map pe_line (enumerate_from 0 T.owners.owners)
    ++ map vpe_line T.vpes ++ flat_map (λ (d : VpeDecl). map (root_line d.vpe) d.roots) T.vpes ++ map offer_line T.offers ++ map deny_line T.denies
    ++ map kill_line T.kills ++ flat_map (λ (d : VpeDecl). map (λ (c : Call). codes "call" ∷ decimal d.vpe ∷ call_words c) d.calls) T.vpes
    ++ (codes "end" ∷ []) ∷ []
sections_spelled T fits =
    ap (λ (ds : List Declaration). map spelled ds) (said_flat T)
    ∙ join _ (End ∷ []) _ _
    (join _ (section T 6) _ _
    (join _ (section T 5) _ _
    (join _ (section T 4) _ _
    (join _ (section T 3) _ _
    (join _ (section T 2) _ _
    (join (section T 0) (section T 1) _ _ (join (window_decls T) (all_pes T) _ _ (window_spelled T) (pes_spelled (enumerate_from 0 T.owners.owners)))
    (vpes_spelled T.vpes))
    (roots_spelled T.vpes (λ d within. (All-contains (IsVpeDecl T) T.vpes d fits.vpes within).roots)))
    (offers_spelled T.offers))
    (denies_spelled T.denies))
    (kills_spelled T.kills))
    (calls_spelled T.vpes))
    refl

pub trace_is : (T : Setup) → IsSetup T → trace_lines T ≡ all_lines T
trace_is T fits = ap (λ (rest : List (List (List ℕ))). (codes "semper" ∷ codes "trace" ∷ decimal T.version ∷ []) ∷ (codes "kernels" ∷ decimal T.kernels ∷ [])
    ∷ rest) (sym (sections_spelled T fits))

-- how many lines there are
cons_few : {Y : Type 0} (o : Option Y) (ys : List Y) (n : ℕ) → length ys ≤ n → length (cons_option o ys) ≤ suc n
cons_few None ys n few = omega arith
cons_few (Some y) ys n few = omega arith

filter_few : {X Y : Type 0} (h : X → Option Y) (xs : List X) → length (filter_map h xs) ≤ length xs
filter_few h [] = omega arith
filter_few h (x ∷ xs) = cons_few (h x) (filter_map h xs) (length xs) (filter_few h xs)

joined_256 : {X Y : Type 0} (f : X → List Y) (xs : List X) → ((x : X) → Contains xs x → length (f x) ≤ 256) → length (flat_map f xs) ≤ 256 * length xs
joined_256 f [] few = omega arith
joined_256 f (x ∷ xs) few =
    let first : length (f x) ≤ 256 = few x (here x xs) in
    let rest : length (flat_map f xs) ≤ 256 * length xs = joined_256 f xs (λ y within. few y (there x xs y within)) in
    omega (arith, length-append (f x) (flat_map f xs))

joined_128 : {X Y : Type 0} (f : X → List Y) (xs : List X) → ((x : X) → Contains xs x → length (f x) ≤ 128) → length (flat_map f xs) ≤ 128 * length xs
joined_128 f [] few = omega arith
joined_128 f (x ∷ xs) few =
    let first : length (f x) ≤ 128 = few x (here x xs) in
    let rest : length (flat_map f xs) ≤ 128 * length xs = joined_128 f xs (λ y within. few y (there x xs y within)) in
    omega (arith, length-append (f x) (flat_map f xs))

few_pes : (n : ℕ) (os : List (Option ℕ)) → length (flat_map pe_decls (enumerate_from n os)) ≤ length os
few_pes n [] = omega arith
few_pes n (None ∷ os) = let rest = few_pes (n + 1) os in omega arith
few_pes n (Some k ∷ os) = let rest = few_pes (n + 1) os in omega arith

few_windows : (T : Setup) → length (window_decls T) ≤ 1
few_windows T =
    elim (cases_Bool (T.version == 1)) [
      | inl one ↦ rw one (omega arith)
      | inr other ↦ rw other (omega arith)
    ]

few_vpes : (T : Setup) → IsSetup T → length T.vpes ≤ 128
unfolding vpes_of numbers
few_vpes T fits =
    let same : length T.vpes ≡ length (filter_map (vpe_in (said_by T)) (range_with_len 0 128)) = ap (λ (xs : List VpeDecl). length xs) (same_vpes T fits) in
    let few = filter_few (vpe_in (said_by T)) (range_with_len 0 128) in
    omega (arith, length-range_with_len 0 128)

few_services : (T : Setup) → IsSetup T → length T.services ≤ 256
unfolding services_of numbers
few_services T fits =
    let same : length T.services ≡ length (filter_map (named (services_among T.vpes)) (range_with_len 0 256)) =
    ap (λ (xs : List ServiceData). length xs) (same_services T fits) in
    let few = filter_few (named (services_among T.vpes)) (range_with_len 0 256) in
    omega (arith, length-range_with_len 0 256)

few_offers : (T : Setup) → IsSetup T → length T.offers ≤ 65536
unfolding offers_of numbers
few_offers T fits =
    let same : length T.offers ≡ length (flat_map (λ (s : ServiceData). filter_map (offer_of (said_by T) s.name) (range_with_len 0 256)) T.services) =
    ap (λ (xs : List OfferData). length xs) (same_offers T fits) in
    let few = joined_256 (λ (s : ServiceData). filter_map (offer_of (said_by T) s.name) (range_with_len 0 256)) T.services (λ s within. let each =
    filter_few (offer_of (said_by T) s.name) (range_with_len 0 256) in omega (arith, length-range_with_len 0 256)) in
    let services = few_services T fits in
    omega arith

few_denies : (T : Setup) → IsSetup T → length T.denies ≤ 16384
unfolding denies_of
few_denies T fits =
    let vpes = few_vpes T fits in
    let same : length T.denies ≡ length (flat_map (λ (d : VpeDecl). filter_map (λ (e : VpeDecl). deny_of (said_by T) d.vpe e.vpe) T.vpes) T.vpes) =
    ap (λ (xs : List (ℕ × ℕ)). length xs) (same_denies T fits) in
    let few = joined_128 (λ (d : VpeDecl). filter_map (λ (e : VpeDecl). deny_of (said_by T) d.vpe e.vpe) T.vpes) T.vpes (λ d within. let each =
    filter_few (λ (e : VpeDecl). deny_of (said_by T) d.vpe e.vpe) T.vpes in omega arith) in
    omega arith

few_kills : (T : Setup) → IsSetup T → length T.kills ≤ 128
unfolding kills_of
few_kills T fits =
    let vpes = few_vpes T fits in
    let same = ap (λ (xs : List (ℕ × ℕ)). length xs) (same_kills T fits) in
    let few : length (kills_of (said_by T) T.vpes) ≤ length T.vpes = filter_few _ T.vpes in
    omega arith

many_roots : (T : Setup) → IsSetup T → length (section T 2) ≤ 32768
many_roots T fits =
    let vpes = few_vpes T fits in
    let few = joined_256 (λ (d : VpeDecl). map (root_decl d.vpe) d.roots) T.vpes (λ d within.
    let decl = All-contains (IsVpeDecl T) T.vpes d fits.vpes within in
    let each = few_roots d.roots decl.roots decl.selectors_differ in
    omega (arith, length-map d.roots (root_decl d.vpe))) in
    omega arith

calls_number : (vs : List VpeDecl) → length (flat_map (λ (d : VpeDecl). map (Calls d.vpe) d.calls) vs) ≡ sum_by (λ (d : VpeDecl). length d.calls) vs
calls_number [] = refl
calls_number (v ∷ vs) = rw (
  sum_by-cons (λ (d : VpeDecl). length d.calls) v vs,
  ← calls_number vs,
) (omega (
  arith,
  length-append (map (Calls v.vpe) v.calls) (flat_map (λ (d : VpeDecl). map (Calls d.vpe) d.calls) vs),
  length-map v.calls (Calls v.vpe),
))

append_few : {X : Type 0} (xs ys : List X) (m n : ℕ) → length xs ≤ m → length ys ≤ n → length (xs ++ ys) ≤ m + n
append_few xs ys m n few more = omega (arith, length-append xs ys)

few_said : (T : Setup) → IsSetup T → length (said_by T) ≤ 129 + (128 + (32768 + (65536 + (16384 + (128 + (20000 + 1))))))
few_said T fits =
    let pes : length (section T 0) ≤ 129 = let long = fits.membership.all_pes in let few = few_pes 0 T.owners.owners in let one = few_windows T in
    omega (arith, length-append (window_decls T) (all_pes T)) in
    let vpes : length (section T 1) ≤ 128 = let few = few_vpes T fits in omega (arith, length-map T.vpes vpe_decl) in
    let offers : length (section T 3) ≤ 65536 = let few = few_offers T fits in omega (arith, length-map T.offers offer_decl) in
    let denies : length (section T 4) ≤ 16384 = let few = few_denies T fits in omega (arith, length-map T.denies deny_decl) in
    let kills : length (section T 5) ≤ 128 = let few = few_kills T fits in omega (arith, length-map T.kills kill_decl) in
    let calls : length (section T 6) ≤ 20000 = let few : call_count T ≤ 20000 = fits.few_calls in let number = calls_number T.vpes in omega arith in
    subst (λ (ds : List Declaration). length ds ≤ 129 + (128 + (32768 + (65536 + (16384 + (128 + (20000 + 1))))))) (sym (said_nested T))
    (append_few (section T 0) _ 129 _ pes
    (append_few (section T 1) _ 128 _ vpes
    (append_few (section T 2) _ 32768 _ (many_roots T fits)
    (append_few (section T 3) _ 65536 _ offers
    (append_few (section T 4) _ 16384 _ denies
    (append_few (section T 5) _ 128 _ kills
    (append_few (section T 6) (End ∷ []) 20000 1 calls (omega arith))))))))

pub few_lines : (T : Setup) → IsSetup T → length (all_lines T) ≤ 135076
few_lines T fits = let few = few_said T fits in omega (arith, length-map (said_by T) spelled)
