-- The canonical text of a setup ("The trace" in docs/texts.md): its lines, each a list of words.
use Rattle.std.specs.Prelude.{ℕ, ◌==◌, List, [], ◌∷◌, ◌++◌, map, flat_map, codes, decimal, Option, Some, None}
use Rattle.std.specs.Prelude.{if◌then◌else◌}
use Rattle.std.specs.List.{enumerate_from}
use Rattle.sem_msg.specs.Prelude.{Object, Serv, Setup}
use Rattle.sem_msg.specs.declared.setup.Root.{Root}
use Rattle.sem_msg.specs.declared.setup.Offer.{Offer}
use Rattle.sem_msg.specs.declared.setup.VpeDecl.{VpeDecl}
use Rattle.sem_text.specs.Lines.{text}
use Rattle.sem_trace.specs.Words.{object_words, call_words}

abbrev pub pe_line : ℕ × Option ℕ → List (List (List ℕ))
pe_line (pe, None) = []
pe_line (pe, Some kernel) = (codes "pe" ∷ decimal pe ∷ decimal kernel ∷ []) ∷ []

abbrev pub vpe_line : VpeDecl → List (List ℕ)
vpe_line d = codes "vpe" ∷ decimal d.vpe ∷ decimal d.pe ∷ []

-- a service has a line of its own
abbrev pub root_line_of : ℕ → ℕ → Object → List (List ℕ)
root_line_of v sel (Serv name) = codes "service" ∷ decimal v ∷ decimal sel ∷ decimal name ∷ []
root_line_of v sel object = codes "root" ∷ decimal v ∷ decimal sel ∷ object_words object

abbrev pub root_line : ℕ → Root → List (List ℕ)
root_line v r = root_line_of v r.sel r.object

abbrev pub offer_line : Offer → List (List ℕ)
offer_line o = codes "offer" ∷ decimal o.name ∷ decimal o.index ∷ decimal o.sel ∷ []

abbrev pub deny_line : ℕ × ℕ → List (List ℕ)
deny_line d = codes "deny" ∷ decimal d.0 ∷ decimal d.1 ∷ []

abbrev pub kill_line : ℕ × ℕ → List (List ℕ)
kill_line k = codes "kill" ∷ decimal k.0 ∷ decimal k.1 ∷ []

-- version 2 tells the window
abbrev pub window_lines : Setup → List (List (List ℕ))
window_lines T = if T.version == 1 then [] else (codes "window" ∷ decimal T.window ∷ []) ∷ []

abbrev pub trace_lines : Setup → List (List (List ℕ))
trace_lines T =
    (codes "semper" ∷ codes "trace" ∷ decimal T.version ∷ [])
    ∷ (codes "kernels" ∷ decimal T.kernels ∷ [])
    ∷ window_lines T
    ++ flat_map pe_line (enumerate_from 0 T.owners.owners)
    ++ map vpe_line T.vpes
    ++ flat_map (λ d. map (root_line d.vpe) d.roots) T.vpes
    ++ map offer_line T.offers
    ++ map deny_line T.denies
    ++ map kill_line T.kills
    ++ flat_map (λ d. map (λ c. codes "call" ∷ decimal d.vpe ∷ call_words c) d.calls) T.vpes
    ++ (codes "end" ∷ []) ∷ []

-- the canonical text
abbrev pub canonical : Setup → List ℕ
canonical T = text (trace_lines T)
