-- Lemmas on the lines of an input, and on how far they have come.
use Rattle.std.proofs.Common.{◌≡◌, ◌≢◌, ℕ, ◌+◌, ◌-◌, ◌<◌, ◌≤◌, ◌^◌, min, refl, sym, ◌∙◌, ap, subst, arith, Bool, true, false, cond, ◌==◌, List, [], ◌∷◌, ◌++◌, length, take, map, get_or, Option, Some, None, Result, Ok, Err, append_assoc, length-append, Vec, IfSome, MatchResult}
use Rattle.std.specs.List.{flat_map, slice_split, AllByRecursion, count_by}
use Rattle.std.specs.Str.Lines.{lines, lines_of_parts, strip_carriage_return}
use Rattle.std.proofs.lemmas.Bool.Decides.{nat_tests}
use Rattle.std.proofs.lemmas.List.{append-nil, map-append, length-map, length-take-le}
use Rattle.std.proofs.lemmas.Grind.{flat_map-append}
use Rattle.std.proofs.lemmas.List.Elements.{All-append, All-nil, All-cons}
use Rattle.std.proofs.lemmas.List.Splits.{slice_split_at, slice_split_none, length-slice_split}
use Rattle.inet_num.specs.Net.{Cidr}
use Rattle.inet_num.specs.declared.text.TextFault.{TextFault}
use Rattle.inet_num.specs.declared.text.TextFault.TheVariants as text
use Rattle.inet_num.specs.Fault.{IsBlockFault}
use Rattle.inet_num.proofs.Readings.{reading_is_one}
use Rattle.command_free.specs.Reading.{line_fault_of}
use Rattle.command_free.specs.declared.free.LineFault.{LineFault}
use Rattle.command_free.specs.declared.free.LineFault.TheVariants.{NotAPrefix}
use Rattle.command_free.specs.Free.{most_lines, IsChildLine, AreChildren, IsLineFault, IsRefusedLine}
use Rattle.command_free.specs.declared.free.Stop.{Stop}
use Rattle.command_free.specs.declared.free.Stop.TheVariants as stop
use Rattle.command_free.specs.declared.lines.Lines.{Lines}
use Rattle.command_free.specs.Reading.{HasNoFeed, fed, IsKept, IsEnded, IsReading, Names, HasRead, StopsWhatever, StopsAtEnd, IsRead}
use Rattle.std.specs.Io.KnownBytes.{Consumes, IsAtEnd}
use Rattle.std.specs.declared.alloc.Global.{Global}
use Rattle.std.specs.Option.{option_to_list}

-- a part, and then the parts of the rest: a line that loses its carriage return, and then the lines of the rest
parts-cons : (x : List ℕ) (ys : List ℕ) → lines_of_parts (x ∷ slice_split (λ b. b == 10) ys) ≡ strip_carriage_return x ∷ lines_of_parts (slice_split (λ b. b == 10) ys)
parts-cons x ys = go (slice_split (λ b. b == 10) ys) (length-slice_split (λ b. b == 10) ys) where
  go : (parts : List (List ℕ)) → length parts ≡ count_by (λ b. b == 10) ys + 1 → lines_of_parts (x ∷ parts) ≡ strip_carriage_return x ∷ lines_of_parts parts
  go [] e = absurd (omega arith)
  go (p ∷ ps) e = refl

-- a line that is ended by a line feed, and then the lines behind it
pub lines-fed : (raw : List ℕ) (rest : List ℕ) → HasNoFeed raw → lines (raw ++ 10 ∷ rest) ≡ strip_carriage_return raw ∷ lines rest
lines-fed raw rest h = ap lines_of_parts (slice_split_at (λ b. b == 10) raw 10 rest h refl) ∙ parts-cons raw rest

-- lines that are ended, and then the lines of what follows
pub lines-ended : (ended : List (List ℕ)) (rest : List ℕ) → AllByRecursion HasNoFeed ended → lines (flat_map fed ended ++ rest) ≡ map strip_carriage_return ended ++ lines rest
lines-ended [] rest h = refl
lines-ended (raw ∷ ended) rest h =
    let regroup : flat_map fed (raw ∷ ended) ++ rest ≡ raw ++ 10 ∷ (flat_map fed ended ++ rest) = append_assoc (fed raw) (flat_map fed ended) rest ∙ append_assoc raw (10 ∷ []) (flat_map fed ended ++ rest) in
    ap lines regroup ∙ lines-fed raw (flat_map fed ended ++ rest) h.0 ∙ ap (λ (ls : List (List ℕ)). strip_carriage_return raw ∷ ls) (lines-ended ended rest h.1)

one_part : (x : ℕ) (xs : List ℕ) → lines_of_parts ((x ∷ xs) ∷ []) ≡ (x ∷ xs) ∷ []
one_part x xs = go (length (x ∷ xs) == 0) refl where
  go : (t : Bool) → (length (x ∷ xs) == 0) ≡ t → cond t [] ((x ∷ xs) ∷ []) ≡ (x ∷ xs) ∷ []
  go false e = refl
  go true e = (let none : length (x ∷ xs) ≡ 0 = grind (arith, nat_tests) in absurd (omega arith))

-- what follows the last line feed is a line where it is not empty
pub lines-last : (next : List ℕ) → HasNoFeed next → next ≢ [] → lines next ≡ next ∷ []
lines-last [] h some = absurd (some refl)
lines-last (x ∷ xs) h some = ap lines_of_parts (slice_split_none (λ b. b == 10) (x ∷ xs) h) ∙ one_part x xs

-- ---- the bytes so far, and one more

pub bytes_more : (ended : List (List ℕ)) (next : List ℕ) (bytes : List ℕ) (b : ℕ) → bytes ≡ flat_map fed ended ++ next → bytes ++ b ∷ [] ≡ flat_map fed ended ++ (next ++ b ∷ [])
bytes_more ended next bytes b e = ap (λ (xs : List ℕ). xs ++ b ∷ []) e ∙ append_assoc (flat_map fed ended) next (b ∷ [])

pub bytes_fed : (ended : List (List ℕ)) (next : List ℕ) (bytes : List ℕ) → bytes ≡ flat_map fed ended ++ next → bytes ++ 10 ∷ [] ≡ flat_map fed (ended ++ next ∷ []) ++ []
bytes_fed ended next bytes e =
    bytes_more ended next bytes 10 e
    ∙ ap (λ (xs : List ℕ). flat_map fed ended ++ xs) (sym (append-nil (fed next)))
    ∙ sym (flat_map-append fed ended (next ∷ []))
    ∙ sym (append-nil (flat_map fed (ended ++ next ∷ [])))

pub free_more : (ended : List (List ℕ)) (next : List ℕ) → AllByRecursion HasNoFeed ended → HasNoFeed next → AllByRecursion HasNoFeed (ended ++ next ∷ [])
free_more [] next h k = (k, tt)
free_more (raw ∷ ended) next h k = (h.0, free_more ended next h.1 k)

pub no_feed_more : (next : List ℕ) (b : ℕ) → HasNoFeed next → b ≢ 10 → HasNoFeed (next ++ b ∷ [])
no_feed_more next b h other = (let is : (b == 10) ≡ false = grind (arith, nat_tests) in let P : ℕ → Type 0 = λ x. (x == 10) ≡ false in All-append P next (b ∷ []) h (All-cons P b [] is (All-nil P)))

pub no_feed_none : HasNoFeed []
no_feed_none = All-nil _

pub stripped_more : (ended : List (List ℕ)) (next : List ℕ) → map strip_carriage_return (ended ++ next ∷ []) ≡ map strip_carriage_return ended ++ strip_carriage_return next ∷ []
stripped_more ended next = map-append strip_carriage_return ended (next ∷ [])

-- a line behind the others, empty or with a child
pub children_same : (within : Cidr) (before : List (List ℕ)) (children : List Cidr) → AreChildren within before children → AreChildren within (before ++ [] ∷ []) children
children_same within [] children h = h
children_same within ([] ∷ before) children h = children_same within before children h
children_same within ((x ∷ xs) ∷ before) children (b, others, one, is, rest) = (b, others, one, is, children_same within before others rest)

pub children_more : (within : Cidr) (before : List (List ℕ)) (children : List Cidr) (line : List ℕ) (b : Cidr) → AreChildren within before children → line ≢ [] → IsChildLine within line b → AreChildren within (before ++ line ∷ []) (children ++ b ∷ [])
children_more within [] children [] b h some one = absurd (some refl)
children_more within [] children (x ∷ xs) b h some one = (b, [], one, ap (λ (cs : List Cidr). cs ++ b ∷ []) h, refl)
children_more within ([] ∷ before) children line b h some one = children_more within before children line b h some one
children_more within ((x ∷ xs) ∷ before) children line b (c, others, first, is, rest) some one =
    (c, others ++ b ∷ [], first, ap (λ (cs : List Cidr). cs ++ b ∷ []) is, children_more within before others line b rest some one)

-- a line without its carriage return is shorter by one at most
strip_long : (line : List ℕ) → 65 < length line → 64 < length (strip_carriage_return line)
strip_long line h = go (get_or line (length line - 1) 0 == 13) refl where
  go : (t : Bool) → (get_or line (length line - 1) 0 == 13) ≡ t → 64 < length (cond t (take (length line - 1) line) line)
  go true e = (let l = length-take-le (length line - 1) line (omega arith) in omega arith)
  go false e = omega arith

-- what is known of a line that a line feed ends, from what was kept of it
pub ended_of_kept : (line kept : List ℕ) (long : Bool) → IsKept line kept long → IsEnded (strip_carriage_return line) (strip_carriage_return kept) long
ended_of_kept line kept true h = strip_long line h.0
ended_of_kept line kept false h = ap strip_carriage_return h

-- and of the last one
pub last_of_kept : (line kept : List ℕ) (long : Bool) → IsKept line kept long → IsEnded line kept long
last_of_kept line kept true h = (let l = h.0 in omega arith)
last_of_kept line kept false h = h

-- the first refused line behind lines that are not refused
pub refused_behind : (within : Cidr) (bytes : List ℕ) (ended : List (List ℕ)) (line : List ℕ) (after : List (List ℕ)) (children : List Cidr) (n number : ℕ) (fault : LineFault)
    → lines bytes ≡ map strip_carriage_return ended ++ line ∷ after → AreChildren within (map strip_carriage_return ended) children → n ≡ length ended → n ≤ most_lines → number ≡ n + 1
    → IsLineFault within number line fault → IsRefusedLine within bytes number fault
refused_behind within bytes ended line after children n number fault split named count few number_is refused =
    let len = length-map ended strip_carriage_return in
    record {
      before = map strip_carriage_return ended;
      line = line;
      after = after;
      children = children;
      split = split;
      number_is = omega arith;
      few = omega arith;
      named = named;
      refused = refused;
    }

-- the number of the next line, which no u32 misses
pub next_number : (n m : ℕ) → m ≡ min (n + 1) (2 ^ 32 - 1) → n ≤ most_lines → m ≡ n + 1
next_number n m e few = omega arith

-- ---- what each step of the reading leaves

-- the lines of bytes whose next line a line feed ends
lines_then_feed : (within : Cidr) (bytes : List ℕ) (old : Lines) (h : IsReading within bytes old) (more : List ℕ)
    → lines ((bytes ++ 10 ∷ []) ++ more) ≡ map strip_carriage_return h.ended ++ strip_carriage_return h.next ∷ lines more
lines_then_feed within bytes old h more =
    let regroup : (bytes ++ 10 ∷ []) ++ more ≡ flat_map fed h.ended ++ (h.next ++ 10 ∷ more) =
    append_assoc bytes (10 ∷ []) more ∙ ap (λ (xs : List ℕ). xs ++ 10 ∷ more) h.bytes_are ∙ append_assoc (flat_map fed h.ended) h.next (10 ∷ more) in
    ap lines regroup ∙ lines-ended h.ended (h.next ++ 10 ∷ more) h.ended_free
    ∙ ap (λ (ls : List (List ℕ)). map strip_carriage_return h.ended ++ ls) (lines-fed h.next more h.next_free)

-- a line that a line feed ends is refused whatever follows
pub feed_refused : (within : Cidr) (bytes : List ℕ) (old : Lines) (h : IsReading within bytes old) (number : ℕ) (fault : LineFault)
    → number ≡ min (old.ended + 1) 4294967295 → IsLineFault within number (strip_carriage_return h.next) fault
    → (more : List ℕ) → IsRefusedLine within ((bytes ++ 10 ∷ []) ++ more) number fault
feed_refused within bytes old h number fault is refused more =
    let count = h.count in
    let few = h.few in
    refused_behind within _ h.ended (strip_carriage_return h.next) (lines more) old.children.items old.ended number fault
    (lines_then_feed within bytes old h more) h.named count (omega arith) (omega arith) refused

-- one more line, which names what was found
named_more : (within : Cidr) (before : List (List ℕ)) (children : List Cidr) (line : List ℕ) (found : Option Cidr) → AreChildren within before children → Names within line found
    → AreChildren within (before ++ line ∷ []) (children ++ option_to_list found)
named_more within before children line None h none =
    subst (λ (l : List ℕ). AreChildren within (before ++ l ∷ []) (children ++ [])) (sym none)
    (subst (λ (cs : List Cidr). AreChildren within (before ++ [] ∷ []) cs) (sym (append-nil children)) (children_same within before children h))
named_more within before children line (Some b) h one = children_more within before children line b h one.0 one.1

-- a line that a line feed ends and that is not refused
pub feed_read : (within : Cidr) (bytes : List ℕ) (old new : Lines) (h : IsReading within bytes old) (number : ℕ) (found : Option Cidr)
    → number ≡ min (old.ended + 1) 4294967295 → number ≤ most_lines → Names within (strip_carriage_return h.next) found
    → new.children.items ≡ old.children.items ++ option_to_list found → new.ended ≡ number → new.line.items ≡ [] → new.long ≡ false
    → IsReading within (bytes ++ 10 ∷ []) new
feed_read within bytes old new h number found is few names children ended line long =
    let count = h.count in
    let one : length (h.ended ++ h.next ∷ []) ≡ length h.ended + 1 = length-append h.ended (h.next ∷ []) in
    record {
      ended = h.ended ++ h.next ∷ [];
      next = [];
      bytes_are = bytes_fed h.ended h.next bytes h.bytes_are;
      ended_free = free_more h.ended h.next h.ended_free h.next_free;
      next_free = no_feed_none;
      named = subst (λ (ls : List (List ℕ)). AreChildren within ls new.children.items) (sym (stripped_more h.ended h.next))
          (subst (λ (cs : List Cidr). AreChildren within (map strip_carriage_return h.ended ++ strip_carriage_return h.next ∷ []) cs) (sym children) (named_more within (map strip_carriage_return h.ended) old.children.items (strip_carriage_return h.next) found h.named names));
      count = omega arith;
      few = omega arith;
      kept = subst (λ (t : Bool). IsKept [] new.line.items t) (sym long) line;
    }

-- one more byte of the next line
pub byte_read : (within : Cidr) (bytes : List ℕ) (old new : Lines) (h : IsReading within bytes old) (b : ℕ) → b ≢ 10
    → new.children.items ≡ old.children.items → new.ended ≡ old.ended → IsKept (h.next ++ b ∷ []) new.line.items new.long
    → IsReading within (bytes ++ b ∷ []) new
byte_read within bytes old new h b other children ended kept = record {
  ended = h.ended;
  next = h.next ++ b ∷ [];
  bytes_are = bytes_more h.ended h.next bytes b h.bytes_are;
  ended_free = h.ended_free;
  next_free = no_feed_more h.next b h.next_free other;
  named = subst (λ (cs : List Cidr). AreChildren within (map strip_carriage_return h.ended) cs) (sym children) h.named;
  count = ended ∙ h.count;
  few = h.few;
  kept = kept;
}

-- what is kept grows by the byte
pub kept_pushed : (next kept new : List ℕ) (long : Bool) (b : ℕ) → IsKept next kept long → new ≡ kept ++ b ∷ [] → IsKept (next ++ b ∷ []) new long
kept_pushed next kept new true b h e = (let l = h.0 in omega (arith, length-append next (b ∷ [])), omega (arith, ap length e, length-append kept (b ∷ [])))
kept_pushed next kept new false b h e = e ∙ ap (λ (xs : List ℕ). xs ++ b ∷ []) h

-- or is full
pub kept_full : (next kept : List ℕ) (long : Bool) (b : ℕ) → IsKept next kept long → length kept ≡ 65 → IsKept (next ++ b ∷ []) kept true
kept_full next kept true b h full = (let l = h.0 in omega (arith, length-append next (b ∷ [])), omega arith)
kept_full next kept false b h full = (let l = ap length h in omega (arith, length-append next (b ∷ [])), omega arith)

-- ---- the end of the bytes

pub next_none : (next kept : List ℕ) (long : Bool) → IsKept next kept long → (length kept == 0) ≡ true → next ≡ []
next_none next kept true h e = (let l = h.1 in let z : length kept ≡ 0 = grind (arith, nat_tests) in absurd (omega arith))
next_none next [] false h e = sym h
next_none next (x ∷ xs) false h e = (let z : length (x ∷ xs) ≡ 0 = grind (arith, nat_tests) in absurd (omega arith))

pub next_some : (next kept : List ℕ) (long : Bool) → IsKept next kept long → (length kept == 0) ≡ false → next ≢ []
next_some next kept true h e none = (let l = h.0 in let z : length next ≡ 0 = ap length none in omega arith)
next_some next kept false h e none = (let z : length kept ≡ 0 = ap length (h ∙ none) in let s : (length kept == 0) ≡ true = grind (arith, nat_tests) in let wrong : true ≡ false = sym s ∙ e in cc)

-- the lines of bytes that end with the next line
lines_then_last : (within : Cidr) (bytes : List ℕ) (old : Lines) (h : IsReading within bytes old) → h.next ≢ [] → lines bytes ≡ map strip_carriage_return h.ended ++ h.next ∷ []
lines_then_last within bytes old h some =
    ap lines h.bytes_are ∙ lines-ended h.ended h.next h.ended_free ∙ ap (λ (ls : List (List ℕ)). map strip_carriage_return h.ended ++ ls) (lines-last h.next h.next_free some)

pub last_refused : (within : Cidr) (bytes : List ℕ) (old : Lines) (h : IsReading within bytes old) (number : ℕ) (fault : LineFault)
    → number ≡ min (old.ended + 1) 4294967295 → h.next ≢ [] → IsLineFault within number h.next fault → IsRefusedLine within bytes number fault
last_refused within bytes old h number fault is some refused =
    let count = h.count in
    let few = h.few in
    refused_behind within bytes h.ended h.next [] old.children.items old.ended number fault (lines_then_last within bytes old h some) h.named count (omega arith) (omega arith) refused

pub last_read : (within : Cidr) (bytes : List ℕ) (old : Lines) (h : IsReading within bytes old) (number : ℕ) (found : Option Cidr) (children : List Cidr)
    → number ≡ min (old.ended + 1) 4294967295 → number ≤ most_lines → h.next ≢ [] → Names within h.next found → children ≡ old.children.items ++ option_to_list found
    → HasRead within bytes children
last_read within bytes old h number found children is few some names children_is =
    let all = lines_then_last within bytes old h some in
    let count = h.count in
    let len = length-map h.ended strip_carriage_return in
    let one : length (map strip_carriage_return h.ended ++ h.next ∷ []) ≡ length (map strip_carriage_return h.ended) + 1 = length-append (map strip_carriage_return h.ended) (h.next ∷ []) in
    record {
      few = (let e = ap length all in omega arith);
      named = subst (λ (ls : List (List ℕ)). AreChildren within ls children) (sym all)
          (subst (λ (cs : List Cidr). AreChildren within (map strip_carriage_return h.ended ++ h.next ∷ []) cs) (sym children_is) (named_more within (map strip_carriage_return h.ended) old.children.items h.next found h.named names));
    }

pub none_left : (within : Cidr) (bytes : List ℕ) (old : Lines) (h : IsReading within bytes old) → h.next ≡ [] → HasRead within bytes old.children.items
none_left within bytes old h none =
    let all : lines bytes ≡ map strip_carriage_return h.ended =
    ap lines (h.bytes_are ∙ ap (λ (xs : List ℕ). flat_map fed h.ended ++ xs) none) ∙ lines-ended h.ended [] h.ended_free ∙ append-nil (map strip_carriage_return h.ended) in
    let len = length-map h.ended strip_carriage_return in
    let few = h.few in
    record {
      few = (let e = ap length all in omega arith);
      named = subst (λ (ls : List (List ℕ)). AreChildren within ls old.children.items) (sym all) h.named;
    }

-- ---- pieces

-- a stop within some bytes is one within more
pub stops_within : (within : Cidr) (bytes front rest : List ℕ) (s : Stop) → StopsWhatever within (bytes ++ front) s → StopsWhatever within (bytes ++ (front ++ rest)) s
stops_within within bytes front rest (stop.Line number fault) h = λ more.
    subst (λ (xs : List ℕ). IsRefusedLine within xs number fault)
    (append_assoc bytes front (rest ++ more) ∙ ap (λ (xs : List ℕ). bytes ++ xs) (sym (append_assoc front rest more)) ∙ sym (append_assoc bytes (front ++ rest) more))
    (h (rest ++ more))
stops_within within bytes front rest stop.Unread h = h
stops_within within bytes front rest stop.Unwritten h = h
stops_within within bytes front rest stop.Memory h = tt

-- ---- the whole input

-- what was taken from an input up to its end is the input
all_taken : (old new : Option (List ℕ)) (bytes : List ℕ) → Consumes old new bytes → IsAtEnd new → IfSome old (λ input. bytes ≡ input)
all_taken None new bytes c e = tt
all_taken (Some x) None bytes c e = absurd c
all_taken (Some x) (Some y) bytes c e = sym (c ∙ ap (λ (ys : List ℕ). bytes ++ ys) e ∙ append-nil bytes)

refused_of_all : (within : Cidr) (old : Option (List ℕ)) (bytes : List ℕ) (number : ℕ) (fault : LineFault) → IfSome old (λ input. bytes ≡ input) → IsRefusedLine within bytes number fault → IfSome old (λ input. IsRefusedLine within input number fault)
refused_of_all within None bytes number fault e h = tt
refused_of_all within (Some x) bytes number fault e h = subst (λ (xs : List ℕ). IsRefusedLine within xs number fault) e h

pub read_to_end : (within : Cidr) (old new : Option (List ℕ)) (faults_old faults_new : ℕ) (bytes : List ℕ) (r : Result (Vec Cidr Global) Stop) → Consumes old new bytes → IsAtEnd new
    → MatchResult r (λ children. HasRead within bytes children.items) (StopsAtEnd within bytes) → IsRead within old new faults_old faults_new r
read_to_end within old new fo fn bytes (Ok children) c e h = (bytes, c, e, h)
read_to_end within old new fo fn bytes (Err (stop.Line number fault)) c e h = refused_of_all within old bytes number fault (all_taken old new bytes c e) h
read_to_end within old new fo fn bytes (Err stop.Unread) c e h = absurd h
read_to_end within old new fo fn bytes (Err stop.Unwritten) c e h = absurd h
read_to_end within old new fo fn bytes (Err stop.Memory) c e h = tt

-- a stop at a line of what was taken is one of the input
pub stopped_within : (within : Cidr) (old new : Option (List ℕ)) (faults_old faults_new : ℕ) (bytes : List ℕ) (s : Stop) → Consumes old new bytes
    → StopsWhatever within bytes s → IsRead within old new faults_old faults_new (Err s)
stopped_within within None new fo fn bytes (stop.Line number fault) c h = tt
stopped_within within (Some x) None fo fn bytes (stop.Line number fault) c h = absurd c
stopped_within within (Some x) (Some y) fo fn bytes (stop.Line number fault) c h = subst (λ (xs : List ℕ). IsRefusedLine within xs number fault) (sym c) (h y)
stopped_within within old new fo fn bytes stop.Unread c h = absurd h
stopped_within within old new fo fn bytes stop.Unwritten c h = absurd h
stopped_within within old new fo fn bytes stop.Memory c h = tt

-- ---- a line that is no block's text

no_prefix : (within : Cidr) (number : ℕ) (line : List ℕ) (f : TextFault) → number ≤ most_lines → line ≢ [] → IsBlockFault line f → ((b : Cidr) → f ≢ text.HostBits b) → IsLineFault within number line NotAPrefix
no_prefix within number line f few some h other = (few, some, λ b one. reading_is_one.apart line b f one.text h, λ b one. other b (reading_is_one.faults line f (text.HostBits b) h one.set))

pub text_refused : (within : Cidr) (number : ℕ) (line : List ℕ) (f : TextFault) → number ≤ most_lines → line ≢ [] → length line ≤ 64 → IsBlockFault line f → IsLineFault within number line (line_fault_of f)
text_refused within number line (text.HostBits b) few some short h = (few, record { short = short; set = h })
text_refused within number line text.Shape few some short h = no_prefix within number line text.Shape few some h (λ b e. cc)
text_refused within number line text.Octet few some short h = no_prefix within number line text.Octet few some h (λ b e. cc)
text_refused within number line text.Group few some short h = no_prefix within number line text.Group few some h (λ b e. cc)
text_refused within number line text.Length few some short h = no_prefix within number line text.Length few some h (λ b e. cc)
