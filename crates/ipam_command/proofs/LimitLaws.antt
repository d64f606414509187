-- The limits are the numbers that the definitions cite.
use Rattle.std.proofs.Common.{◌≡◌, ◌≤◌, ◌<◌, ℕ, Bool, true, false, cond, nat_le, ◌||◌, ◌∙◌, List, Result, Ok, Err, arith, refl}
use Rattle.std.proofs.lemmas.Bool.Decides.{nat_tests}
use Rattle.std.specs.Str.Parse.{digits_value}
use Rattle.http_session.specs.declared.request.Fault.{Fault}
use Rattle.http_session.specs.declared.request.Fault.TheVariants.{BadHead, LargeBody}
use Rattle.http_session.specs.Fields.{is_length_text, length_from, asks_close}
use Rattle.http_session.specs.Requests.{Framed, IsRequest}
use Rattle.ipam_command.specs.Limits.{HasRegisterLimits, HasCommandLimits, HasSessionLimits, HasLimits}

-- a length that is taken fits, and one that is too large does not
fits_so : (is fits : Bool) (value n : ℕ) → fits ≡ nat_le value 4194304 → cond is (cond fits (Ok value) (Err LargeBody)) (Err BadHead) ≡ Ok n → n ≤ 4194304
fits_so true true value n test said = (let same : value ≡ n = cc said in grind (arith, nat_tests))
fits_so true false value n test said = cc said
fits_so false fits value n test said = cc said

is_large : (is fits : Bool) (value : ℕ) → fits ≡ nat_le value 4194304 → cond is (cond fits (Ok value) (Err LargeBody)) (Err BadHead) ≡ Err LargeBody → 4194304 < value
is_large true true value test said = cc said
is_large true false value test said = grind (arith, nat_tests)
is_large false fits value test said = cc said

body : (text : List ℕ) (n : ℕ) → length_from text ≡ Ok n → n ≤ 4194304
unfolding length_from
body text n said = fits_so (is_length_text text) _ (digits_value 10 text) n refl said

large_body : (text : List ℕ) → length_from text ≡ Err LargeBody → 4194304 < digits_value 10 text
unfolding length_from
large_body text said = is_large (is_length_text text) _ (digits_value 10 text) refl said

-- the last answer closes, and one before it only where that is asked for
last_closes : (asks : Bool) (n : ℕ) → 999 ≤ n → (asks || nat_le 999 n) ≡ true
last_closes true n late = refl
last_closes false n late = grind (arith, nat_tests)

others_open : (asks : Bool) (n : ℕ) → n < 999 → (asks || nat_le 999 n) ≡ asks
others_open true n early = refl
others_open false n early = grind (arith, nat_tests)

pub limits_hold : HasLimits
limits_hold = record {
  register = record {
    vrfs = refl;
    rirs = refl;
    roles = refl;
    aggregates = refl;
    prefixes = refl;
    ranges = refl;
    addresses = refl;
    of_range = refl;
    items = refl;
    rows = refl;
    spent = refl;
    last_id = refl;
    version = refl;
    migrated_version = refl;
  };
  commands = record {
    workers = refl;
    readers = refl;
    connections = refl;
    claims = refl;
    id = refl;
    lines = refl;
    bytes = refl;
    listed = refl;
    blocks = refl;
  };
  session = record {
    fields = λ text h rest begins. begins.few;
    fields_taken = λ text h rest reads few. record { reads = reads; few = few };
    head = λ bytes h rest has. has.short;
    head_taken = λ bytes h rest begins short. record { begins = begins; short = short };
    large_head = λ bytes refused. refused.0;
    large_head_refused = λ bytes long may. (long, may);
    body = body;
    large_body = large_body;
    answers = λ n bytes r rest q late. q.close ∙ last_closes (asks_close q.head) n late;
    answers_open = λ n bytes r rest q early. q.close ∙ others_open (asks_close q.head) n early;
  };
  serving = record { patience = refl };
}
