-- What lines declare, read from the list of what they say ("The trace" in docs/texts.md).
use Rattle.std.specs.Prelude.{ℕ, ◌==◌, Bool, false, true, ◌&&◌, List, [], ◌∷◌, filter_map, count_by, Option, Some}
use Rattle.std.specs.Prelude.{None, option_map, if◌then◌else◌}
use Rattle.std.specs.List.{list_any}
use Rattle.std.specs.Option.{option_or}
use Rattle.sem_msg.specs.Prelude.{Mem, Recv, Serv}
use Rattle.sem_msg.specs.declared.call.Call.{Call}
use Rattle.sem_msg.specs.declared.setup.Root.{Root}
use Rattle.sem_msg.specs.declared.setup.VpeDecl.{VpeDecl}
use Rattle.sem_trace.specs.declared.declaration.Declaration.{Declaration}
use Rattle.sem_trace.specs.declared.declaration.Declaration.TheVariants.{Window, Pe, Vpe, Memory, Receive, Service}
use Rattle.sem_trace.specs.declared.declaration.Declaration.TheVariants.{Offer, Deny, Kill, Call as Calls, End}

-- the first result that h gives
abbrev pub first_some : {X Y : Type 0} → (X → Option Y) → List X → Option Y
first_some h [] = None
first_some h (x ∷ xs) = option_or (h x) (first_some h xs)

-- how many messages a link holds
abbrev pub said_window : Declaration → Option ℕ
said_window (Window window) = Some window
said_window d = None

unfoldable pub window_in : List Declaration → Option ℕ
window_in ds = first_some said_window ds

-- the kernel that owns a PE
abbrev pub said_owner : ℕ → Declaration → Option ℕ
said_owner p (Pe q kernel) = if q == p then Some kernel else None
said_owner p d = None

unfoldable pub owner_in : List Declaration → ℕ → Option ℕ
owner_in ds p = first_some (said_owner p) ds

-- the PE of a VPE
abbrev pub said_pe : ℕ → Declaration → Option ℕ
said_pe v (Vpe w p) = if w == v then Some p else None
said_pe v d = None

unfoldable pub pe_in : List Declaration → ℕ → Option ℕ
pe_in ds v = first_some (said_pe v) ds

-- whether a VPE is on a PE
abbrev pub says_on : ℕ → Declaration → Bool
says_on p (Vpe v q) = q == p
says_on p d = false

unfoldable pub is_pe_taken : List Declaration → ℕ → Bool
is_pe_taken ds p = list_any (says_on p) ds

-- what a VPE holds at the start
abbrev pub said_root : ℕ → Declaration → Option Root
said_root v (Memory w s base len rights) = if w == v then Some (record { sel = s; object = Mem base len rights })
    else None
said_root v (Receive w s slots) = if w == v then Some (record { sel = s; object = Recv slots }) else None
said_root v (Service w s name) = if w == v then Some (record { sel = s; object = Serv name }) else None
said_root v d = None

unfoldable pub roots_in : List Declaration → ℕ → List Root
roots_in ds v = filter_map (said_root v) ds

-- whether a VPE holds something at a selector
abbrev pub holds_at : List Root → ℕ → Bool
holds_at roots s = list_any (λ r. r.sel == s) roots

-- the calls of a VPE
abbrev pub said_call : ℕ → Declaration → Option Call
said_call v (Calls w call) = if w == v then Some call else None
said_call v d = None

unfoldable pub calls_in : List Declaration → ℕ → List Call
calls_in ds v = filter_map (said_call v) ds

-- a VPE with all that is declared of it
unfoldable pub vpe_in : List Declaration → ℕ → Option VpeDecl
vpe_in ds v = option_map (λ p. record { vpe = v; pe = p; roots = roots_in ds v; calls = calls_in ds v }) (pe_in ds v)

-- whether there is a service of that name
abbrev pub says_service : ℕ → Declaration → Bool
says_service name (Service v s other) = other == name
says_service name d = false

unfoldable pub has_service : List Declaration → ℕ → Bool
has_service ds name = list_any (says_service name) ds

-- what a service offers under an index
abbrev pub said_offer : ℕ → ℕ → Declaration → Option ℕ
said_offer name index (Offer other i s) = if (other == name) && (i == index) then Some s else None
said_offer name index d = None

unfoldable pub offer_in : List Declaration → ℕ → ℕ → Option ℕ
offer_in ds name index = first_some (said_offer name index) ds

-- whether a VPE denies what another asks
abbrev pub says_deny : ℕ → ℕ → Declaration → Bool
says_deny v asker (Deny w other) = (w == v) && (other == asker)
says_deny v asker d = false

unfoldable pub is_denied : List Declaration → ℕ → ℕ → Bool
is_denied ds v asker = list_any (says_deny v asker) ds

-- after how many replies a VPE is killed
abbrev pub said_kill : ℕ → Declaration → Option ℕ
said_kill v (Kill w replies) = if w == v then Some replies else None
said_kill v d = None

unfoldable pub kill_in : List Declaration → ℕ → Option ℕ
kill_in ds v = first_some (said_kill v) ds

-- how many calls there are
abbrev pub is_call_line : Declaration → Bool
is_call_line (Calls v call) = true
is_call_line d = false

unfoldable pub call_number : List Declaration → ℕ
call_number ds = count_by is_call_line ds

-- whether the last line was said
abbrev pub is_end : Declaration → Bool
is_end End = true
is_end d = false

unfoldable pub is_ended : List Declaration → Bool
is_ended ds = list_any is_end ds
