-- The limits of the program, each with its number. The definitions of calls, files, heads and words cite them by names, and most of the names
-- represent constants of the code; so a constant that is another number is refused here.
use Rattle.std.specs.Prelude.{◌≡◌, ℕ, ◌<◌, ◌≤◌, true, List, length, take, Ok, Err}
use Rattle.std.specs.Str.Parse.{digits_value}
use Rattle.httparse.specs.Grammar.{RequestHead, ReadsRequest, print_request}
use Rattle.http_session.specs.declared.request.Fault.TheVariants.{LargeHead, LargeBody}
use Rattle.http_session.specs.Fields.{length_from, asks_close}
use Rattle.http_session.specs.Requests.{Framed, BeginsWithHead, MayBecomeHead, HasHead, IsRefused, IsRequest}
use Rattle.ipam_data.specs.declared.kinds.TheConstants.{LAST_ID}
use Rattle.ipam_data.specs.Rows.{most_vrfs, most_rirs, most_roles, most_aggregates, most_prefixes, most_ranges, most_addresses}
use Rattle.ipam_data.specs.Ranges.{most_of_range}
use Rattle.ipam_data.specs.Checks.{most_spent}
use Rattle.ipam_data.specs.Claims.{most_items}
use Rattle.ipam_data.specs.Imports.{most_rows}
use Rattle.stored_tables.specs.Stored.{stored_version}
use Rattle.stored_tables.specs.Migration.{first_version}
use Rattle.csv_import.specs.Files.{most_bytes}
use Rattle.rest_query.specs.Readings.{most_listed}
use Rattle.command_words.specs.Values.{most_workers, most_readers, most_connections, most_claims, most_id}
use Rattle.command_free.specs.Free.{most_lines}
use Rattle.command_files.specs.Report.{most_blocks}
use Rattle.machine_serving.specs.Limits.{HasServingLimits}

-- what a register holds at most: rows of each kind, addresses of a range, items of a claim, rows of an import, and items of its log; the
-- greatest id of a row; and the version of the tables that it reads and writes, and that of those which are migrated
pub record HasRegisterLimits : Type 0 where
  pub vrfs : most_vrfs ≡ 1000
  pub rirs : most_rirs ≡ 1000
  pub roles : most_roles ≡ 1000
  pub aggregates : most_aggregates ≡ 1000
  pub prefixes : most_prefixes ≡ 200000
  pub ranges : most_ranges ≡ 10000
  pub addresses : most_addresses ≡ 500000
  pub of_range : most_of_range ≡ 4294967295
  pub items : most_items ≡ 1000
  pub rows : most_rows ≡ 10000
  pub spent : most_spent ≡ 1000000
  pub last_id : LAST_ID ≡ 4294967294
  pub version : stored_version ≡ 2
  pub migrated_version : first_version ≡ 1

-- what words, lines, files, lists and reports have at most
pub record HasCommandLimits : Type 0 where
  pub workers : most_workers ≡ 32
  pub readers : most_readers ≡ 16
  pub connections : most_connections ≡ 1000000000
  pub claims : most_claims ≡ 100000
  pub id : most_id ≡ 4294967295
  pub lines : most_lines ≡ 200000
  pub bytes : most_bytes ≡ 4194304
  pub listed : most_listed ≡ 1000
  pub blocks : most_blocks ≡ 1000

-- what a request and a connection have at most
pub record HasSessionLimits : Type 0 where
  -- 64 fields of a head, and 16,384 bytes
  pub fields : (text : List ℕ) (h : RequestHead) (rest : List ℕ) → BeginsWithHead text h rest → length h.fields ≤ 64
  pub fields_taken : (text : List ℕ) (h : RequestHead) (rest : List ℕ) → ReadsRequest text h rest → length h.fields ≤ 64 → BeginsWithHead text h rest
  pub head : (bytes : List ℕ) (h : RequestHead) (rest : List ℕ) → HasHead bytes h rest → length (print_request h) ≤ 16384
  pub head_taken : (bytes : List ℕ) (h : RequestHead) (rest : List ℕ) → BeginsWithHead bytes h rest → length (print_request h) ≤ 16384 → HasHead bytes h rest
  pub large_head : (bytes : List ℕ) → IsRefused bytes ⊥ LargeHead → 16384 ≤ length bytes
  pub large_head_refused : (bytes : List ℕ) → 16384 ≤ length bytes → MayBecomeHead (take 16384 bytes) → IsRefused bytes ⊥ LargeHead
  -- 4,194,304 bytes of a body
  pub body : (text : List ℕ) (n : ℕ) → length_from text ≡ Ok n → n ≤ 4194304
  pub large_body : (text : List ℕ) → length_from text ≡ Err LargeBody → 4194304 < digits_value 10 text
  -- 1,000 answers of a connection, which are counted from 0
  pub answers : (n : ℕ) (bytes : List ℕ) (r : Framed) (rest : List ℕ) → IsRequest n bytes r rest → 999 ≤ n → r.close ≡ true
  pub answers_open : (n : ℕ) (bytes : List ℕ) (r : Framed) (rest : List ℕ) (q : IsRequest n bytes r rest) → n < 999 → r.close ≡ asks_close q.head

-- the limits of the program
pub record HasLimits : Type 0 where
  pub register : HasRegisterLimits
  pub commands : HasCommandLimits
  pub session : HasSessionLimits
  pub serving : HasServingLimits
