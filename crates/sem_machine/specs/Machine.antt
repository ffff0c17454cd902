-- The machine: the sides of all kernels and the links between them, the events, and the step of
-- each event ("Events" in docs/machine.md).
use Rattle.std.specs.Prelude.{ℕ, ◌+◌, ◌==◌, nat_lt, Bool, true, ◌&&◌, List, [], ◌∷◌, ◌++◌, length, map, filter}
use Rattle.std.specs.Prelude.{flat_map, drop, slice_get, slice_index_or, Option, None, is_none, is_some, replicate}
use Rattle.std.specs.List.{range_with_len}
use Rattle.std.specs.Option.{option_map, option_map_or}
use Rattle.sem_msg.specs.Prelude.{VPES, put, in_turn, no_vpe, Setup, kernel_of, calls_of}
use Rattle.sem_key.specs.CapList.{fresh}
use Rattle.sem_msg.specs.declared.call.Call.{Call}
use Rattle.sem_msg.specs.declared.message.Message.{Message}
use Rattle.sem_msg.specs.declared.event.Act.{Act}
use Rattle.sem_msg.specs.declared.event.Act.TheVariants.{Call as Calls, Fetch, Handle, Upcall, Resume, Flush, Kill}
use Rattle.sem_msg.specs.declared.event.Event.{Event}
use Rattle.sem_msg.specs.declared.entry.Detail.{Detail}
use Rattle.sem_msg.specs.declared.entry.Detail.TheVariants.{Called, Carried, Asked, Nothing}
use Rattle.sem_msg.specs.declared.entry.Entry.{Entry}
use Rattle.sem_msg.specs.declared.setup.Root.{Root}
use Rattle.sem_msg.specs.declared.setup.VpeDecl.{VpeDecl}
use Rattle.sem_msg.specs.Fabric.{link_in, link_put, is_due}
use Rattle.sem_msg.specs.VpeRows.{new_vpe, next_root, root_held}
use Rattle.sem_msg.specs.EndpointRows.{no_endpoint_bound}
use Rattle.sem_msg.specs.Journal.{kill_number}
pub use Rattle.sem_msg.specs.Act.{replied_vpe}
pub use Rattle.sem_msg.specs.Lookups.{is_other_kernel}
use Rattle.sem_msg.specs.Lookups.{own_vpes}
use Rattle.sem_msg.specs.declared.entry.Outcome.{Outcome}
use Rattle.sem_machine.specs.Sides.{Side, no_side, row, parked, outbox, is_alive, with_row, call_counted, cap_added}
use Rattle.sem_machine.specs.Sides.{with_inbox, sent}
use Rattle.sem_machine.specs.Steps.{Step, unshown}
use Rattle.sem_machine.specs.Ends.{ended}
use Rattle.sem_machine.specs.Calls.{call_row}
use Rattle.sem_machine.specs.Upcalls.{upcall_row}
use Rattle.sem_machine.specs.Handles.{handled}
use Rattle.sem_machine.specs.Resumes.{can_resume, resume_row}

-- The start.

-- a root or service is held, without parent, child or mark
abbrev pub root_added : VpeDecl → Root → Side → Side
root_added d r s =
    with_row d.vpe (root_held d r) (cap_added (fresh (next_root d r (row s d.vpe)) None r.sel r.object) s)

-- a new VPE
abbrev pub vpe_fresh : VpeDecl → Side → Side
vpe_fresh d s = record (with_row d.vpe (λ v. new_vpe) s) { endpoints = put [] s.endpoints d.vpe no_endpoint_bound }

-- a VPE with its roots and services, in the order of their lines
abbrev pub vpe_added : VpeDecl → Side → Side
vpe_added d s = in_turn (root_added d) d.roots (vpe_fresh d s)

-- a side with a place for each VPE and each kernel, and nothing in them
abbrev pub empty_side : Setup → Side
empty_side T = record no_side {
  vpes = replicate VPES no_vpe;
  endpoints = replicate VPES [];
  parks = replicate VPES None;
  outs = replicate T.kernels [];
}

-- the side of kernel i at the start
unfoldable pub start_side : Setup → ℕ → Side
start_side T i = in_turn vpe_added (own_vpes T i) (empty_side T)

-- the state of all kernels and of the links between them
pub record World : Type 0 where
  -- the side of each kernel
  pub sides : List Side
  -- the messages in each link, the oldest first, by sender and receiver
  pub links : List (List (List Message))
  -- how many replies were made
  pub replies : ℕ

unfoldable pub start : Setup → World
start T =
    record {
      sides = map (start_side T) (range_with_len 0 T.kernels);
      links = replicate T.kernels (replicate T.kernels []);
      replies = 0;
    }

abbrev pub side : World → ℕ → Side
side W i = slice_index_or W.sides i no_side

-- the link from kernel i to kernel j
abbrev pub link : World → ℕ → ℕ → List Message
link W i j = link_in W.links i j

abbrev pub with_side : ℕ → Side → World → World
with_side i s W = record W { sides = put no_side W.sides i s }

abbrev pub with_link : ℕ → ℕ → List Message → World → World
with_link i j messages W = record W { links = link_put i j messages W.links }

-- The step of one side.

-- the call that the VPE makes next
abbrev pub next_call : Setup → Side → ℕ → Option Call
next_call T s v = slice_get (calls_of T v) (row s v).next_call

-- What an act does to the side of kernel i. A fetch gets the message that it takes out of the link.
unfoldable pub local_step : Setup → ℕ → Side → Act → Option Message → Step
local_step T i s (Calls v) input = option_map_or (call_row T i (call_counted v s) v) (next_call T s v) (unshown s)
local_step T i s (Fetch from) input = unshown (with_inbox (option_map (λ m. (from, m)) input) s)
local_step T i s Handle input = unshown (option_map_or (λ m. handled T i (with_inbox None s) m.0 m.1) s.inbox s)
local_step T i s (Upcall v) input = upcall_row T i s v
local_step T i s (Resume v) input = resume_row T s v
local_step T i s (Flush to) input = unshown (sent to s)
local_step T i s (Kill v) input = unshown (ended T i v s)

-- what an entry tells besides its act: the call, the message, or the VPE that asked
abbrev pub asked_detail : Outcome → Detail
asked_detail o = option_map_or (λ a. Asked a.0 a.1) o.asked Nothing

abbrev pub detail_of : Setup → Side → Act → Option Message → Outcome → Detail
detail_of T s (Calls v) input o = option_map_or (λ call. Called (row s v).next_call call) (next_call T s v) Nothing
detail_of T s (Fetch from) input o = option_map_or (λ m. Carried from m) input Nothing
detail_of T s Handle input o = option_map_or (λ m. Carried m.0 m.1) s.inbox Nothing
detail_of T s (Upcall v) input o = asked_detail o
detail_of T s (Resume v) input o = Nothing
detail_of T s (Flush to) input o = option_map_or (λ m. Carried to m) (slice_get (outbox s to) 0) Nothing
detail_of T s (Kill v) input o = Nothing

-- the entry that an act of kernel i makes
unfoldable pub local_entry : Setup → ℕ → Side → Act → Option Message → Entry
local_entry T i s act input =
    let o : Outcome = (local_step T i s act input).outcome in
    record {
      event = record { kernel = i; act = act };
      detail = detail_of T s act input o;
      grant = o.grant;
      cut = o.cut;
      reply = option_map (λ code. record { vpe = replied_vpe act; code = code }) o.reply;
    }

-- Which acts are enabled.

-- whether an act of kernel i is enabled as far as its side tells, leaving out the links and the
-- replies
unfoldable pub is_locally_enabled : Setup → ℕ → Side → Act → Bool
is_locally_enabled T i s (Calls v) = (kernel_of T v == i)
    && (is_alive s v && (is_none (parked s v) && is_some (next_call T s v)))
is_locally_enabled T i s (Resume v) = (kernel_of T v == i) && can_resume (parked s v)
is_locally_enabled T i s (Upcall v) = (kernel_of T v == i) && (is_alive s v && is_some (slice_get (row s v).asks 0))
is_locally_enabled T i s Handle = is_some s.inbox
is_locally_enabled T i s (Fetch j) = is_other_kernel T i j && is_none s.inbox
is_locally_enabled T i s (Flush j) = is_other_kernel T i j && is_some (slice_get (outbox s j) 0)
is_locally_enabled T i s (Kill v) = (kernel_of T v == i) && (is_alive s v && is_some (kill_number T v))

-- whether the links and the replies allow it: a fetch finds a message, a flush finds room in its
-- link, a kill is due
abbrev pub is_allowed : Setup → World → ℕ → Act → Bool
is_allowed T W i (Calls v) = true
is_allowed T W i (Resume v) = true
is_allowed T W i (Upcall v) = true
is_allowed T W i Handle = true
is_allowed T W i (Fetch j) = is_some (slice_get (link W j i) 0)
is_allowed T W i (Flush j) = nat_lt (length (link W i j)) T.window
is_allowed T W i (Kill v) = is_due T W.replies v

unfoldable pub is_enabled : Setup → World → Event → Bool
is_enabled T W e = nat_lt e.kernel T.kernels
    && (is_locally_enabled T e.kernel (side W e.kernel) e.act && is_allowed T W e.kernel e.act)

abbrev pub event : ℕ → Act → Event
event i act = record { kernel = i; act = act }

-- All events of kernel i: the calls, resumes and upcalls by VPE, the handling, the fetches and
-- flushes by kernel, the kills by VPE.
abbrev pub kernel_events : Setup → ℕ → List Event
kernel_events T i =
    map (λ d. event i (Calls d.vpe)) T.vpes
    ++ map (λ d. event i (Resume d.vpe)) T.vpes
    ++ map (λ d. event i (Upcall d.vpe)) T.vpes
    ++ (event i Handle ∷ [])
    ++ map (λ j. event i (Fetch j)) (range_with_len 0 T.kernels)
    ++ map (λ j. event i (Flush j)) (range_with_len 0 T.kernels)
    ++ map (λ k. event i (Kill k.0)) T.kills

abbrev pub all_events : Setup → List Event
all_events T = flat_map (kernel_events T) (range_with_len 0 T.kernels)

-- the enabled events, in order
unfoldable pub enabled : Setup → World → List Event
enabled T W = filter (is_enabled T W) (all_events T)

-- The step of the world.

-- the message that an act takes out of a link
abbrev pub input_of : World → ℕ → Act → Option Message
input_of W i (Fetch j) = slice_get (link W j i) 0
input_of W i act = None

-- a fetch takes the oldest message out of a link, a flush moves the oldest waiting message into one
abbrev pub link_moved : ℕ → Side → Act → World → World
link_moved i s (Fetch j) W = with_link j i (drop 1 (link W j i)) W
link_moved i s (Flush j) W = option_map_or (λ m. with_link i j (link W i j ++ m ∷ []) W) (slice_get (outbox s j) 0) W
link_moved i s act W = W

abbrev pub reply_counted : Outcome → World → World
reply_counted o W = record W { replies = option_map_or (λ code. W.replies + 1) o.reply W.replies }

-- the world after an event
unfoldable pub after : Setup → World → Event → World
after T W e =
    let s : Side = side W e.kernel in
    let x : Step = local_step T e.kernel s e.act (input_of W e.kernel e.act) in
    reply_counted x.outcome (link_moved e.kernel s e.act (with_side e.kernel x.side W))

-- the entry that an event makes
unfoldable pub entry_of : Setup → World → Event → Entry
entry_of T W e = local_entry T e.kernel (side W e.kernel) e.act (input_of W e.kernel e.act)
