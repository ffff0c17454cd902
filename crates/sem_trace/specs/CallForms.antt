-- How a call stands to its name and its numbers.
use Rattle.std.specs.Prelude.{◌≡◌, ℕ, List, [], slice_index, slice_index_or}
use Rattle.sem_msg.specs.declared.call.Call.{Call}
use Rattle.sem_msg.specs.declared.call.Call.TheVariants.{Derive, Gate, Obtain, Delegate, OpenSession, AskOffer}
use Rattle.sem_msg.specs.declared.call.Call.TheVariants.{Revoke, Bind, Read, Write, Send, Credit, Exit, Clear}
use Rattle.sem_trace.specs.declared.call_forms.CallForm.{CallForm}
use Rattle.sem_trace.specs.declared.call_forms.CallKind.{CallKind}
use Rattle.sem_trace.specs.declared.call_forms.CallKind.TheVariants.{Derive as Derives, Gate as Gates}
use Rattle.sem_trace.specs.declared.call_forms.CallKind.TheVariants.{Obtain as Obtains, Delegate as Delegates}
use Rattle.sem_trace.specs.declared.call_forms.CallKind.TheVariants.{OpenSession as Opens, AskOffer as Asks}
use Rattle.sem_trace.specs.declared.call_forms.CallKind.TheVariants.{Revoke as Revokes, Bind as Binds, Read as Reads}
use Rattle.sem_trace.specs.declared.call_forms.CallKind.TheVariants.{Write as Writes, Send as Sends, Credit as Credits}
use Rattle.sem_trace.specs.declared.call_forms.CallKind.TheVariants.{Exit as Exits, Clear as Clears}
use Rattle.sem_trace.specs.Forms.{Place, calls}
use Rattle.sem_trace.specs.Slots.{form_of}

-- a row of the calls, counted from 0: a name and the places behind it
abbrev pub spelling_at : (version i : ℕ) → List ℕ × List Place
spelling_at version i = slice_index_or (calls version) i ([], [])

-- the name and the places of the calls of a kind
abbrev pub call_spelling : ℕ → CallKind → List ℕ × List Place
call_spelling version Derives = spelling_at version 0
call_spelling version Gates = spelling_at version 1
call_spelling version Obtains = spelling_at version 2
call_spelling version Delegates = spelling_at version 3
call_spelling version Opens = spelling_at version 4
call_spelling version Asks = spelling_at version 5
call_spelling version Revokes = spelling_at version 6
call_spelling version Binds = spelling_at version 7
call_spelling version Reads = spelling_at version 8
call_spelling version Writes = spelling_at version 9
call_spelling version Sends = spelling_at version 10
call_spelling version Credits = spelling_at version 11
call_spelling version Exits = spelling_at version 12
call_spelling version Clears = spelling_at version 13

-- it tells the name and the places of its kind
abbrev pub IsRow : CallForm → Type 0
IsRow form = (version : ℕ) → form_of version form ≡ call_spelling version form.kind

-- the call of that kind with these numbers
abbrev pub call_with : CallKind → List ℕ → Call
call_with Derives ns =
    Derive (slice_index ns 0) (slice_index ns 1) (slice_index ns 2) (slice_index ns 3) (slice_index ns 4)
call_with Gates ns = Gate (slice_index ns 0) (slice_index ns 1) (slice_index ns 2) (slice_index ns 3)
call_with Obtains ns = Obtain (slice_index ns 0) (slice_index ns 1) (slice_index ns 2)
call_with Delegates ns = Delegate (slice_index ns 0) (slice_index ns 1) (slice_index ns 2)
call_with Opens ns = OpenSession (slice_index ns 0) (slice_index ns 1)
call_with Asks ns = AskOffer (slice_index ns 0) (slice_index ns 1) (slice_index ns 2)
call_with Revokes ns = Revoke (slice_index ns 0)
call_with Binds ns = Bind (slice_index ns 0) (slice_index ns 1)
call_with Reads ns = Read (slice_index ns 0) (slice_index ns 1) (slice_index ns 2)
call_with Writes ns = Write (slice_index ns 0) (slice_index ns 1) (slice_index ns 2)
call_with Sends ns = Send (slice_index ns 0) (slice_index ns 1)
call_with Credits ns = Credit (slice_index ns 0)
call_with Exits ns = Exit
call_with Clears ns = Clear (slice_index ns 0)
