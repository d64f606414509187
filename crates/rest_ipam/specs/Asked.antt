-- What comes next in the bytes of a connection, with a refusal in the words of the register.
use Rattle.std.specs.Prelude.{◌≡◌, ◌⊎◌, ℕ, List, [], Option}
use Rattle.std.specs.Io.KnownBytes.{IsAtEnd}
use Rattle.ipam_edge.specs.Reading.{Last, Open, Told, Failed}
use Rattle.http_session.specs.declared.request.Fault.{Fault}
use Rattle.http_session.specs.Requests.{Asks, Framed, InboxView, IsItem, IsUnfinished, Refuses}
use Rattle.http_session.specs.Steps.{next_number}
use Rattle.rest_routes.specs.Answers.{refusal_of}
use Rattle.rest_ipam.specs.declared.request.HttpRequest.{HttpRequest}
use Rattle.rest_ipam.specs.declared.request.Asked.{Asked}
use Rattle.rest_ipam.specs.declared.request.Asked.TheVariants as asked

-- a request as the bytes have it
abbrev pub framed : HttpRequest → Framed
framed r = record { method = r.method; target = r.target; body = r.body; close = r.close }

-- what comes next in the bytes, of which `number` items were given before, and the inbox after it
abbrev pub IsAsked : ℕ → List ℕ → Option (List ℕ) → Asked → InboxView → Type 0
IsAsked n bytes left (asked.Request r) inbox = IsItem n bytes (IsAtEnd left) (Asks (framed r)) inbox.bytes × (inbox.number ≡ next_number n)
IsAsked n bytes left (asked.Bad why) inbox =
    (fault : Fault) × (why ≡ refusal_of fault) × IsItem n bytes (IsAtEnd left) (Refuses fault) inbox.bytes × (inbox.number ≡ next_number n)
IsAsked n bytes left asked.End inbox = IsAtEnd left × (bytes ≡ []) × (inbox.bytes ≡ []) × (inbox.number ≡ n)
IsAsked n bytes left asked.SourceFault inbox = IsUnfinished bytes × (inbox.bytes ≡ bytes) × (inbox.number ≡ n)
IsAsked n bytes left asked.Memory inbox = (inbox.bytes ≡ bytes) × (inbox.number ≡ n)

-- what the last read said, by what comes next
abbrev pub IsAskedLast : Asked → Last → Type 0
IsAskedLast (asked.Request r) last = last ≡ Open
IsAskedLast (asked.Bad why) last = (last ≡ Open) ⊎ (last ≡ Told)
IsAskedLast asked.End last = last ≡ Told
IsAskedLast asked.SourceFault last = last ≡ Failed
IsAskedLast asked.Memory last = last ≡ Open
