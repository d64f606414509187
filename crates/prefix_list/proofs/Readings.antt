-- What is known of lines that were read, one after another, and that bytes have one reading.
use Rattle.std.proofs.Common.{◌≡◌, ◌≢◌, ◌⊎◌, ℕ, zero, suc, ◌+◌, ◌≤◌, refl, sym, ◌∙◌, ap, subst, arith, inl, inr, List, [], ◌∷◌, ◌++◌, length, Result, Ok, Err, IfOk, IfErr, append_assoc}
use Rattle.std.specs.Prelude.{Vec}
use Rattle.std.specs.List.{AllByRecursion}
use Rattle.std.specs.declared.alloc.Global.{Global}
use Rattle.inet_num.specs.declared.Family.{Family}
use Rattle.inet_num.specs.Net.{Cidr, IsBlock}
use Rattle.prefix_list.specs.declared.styles.Style.{Style}
use Rattle.prefix_list.specs.declared.reading.Form.{Form}
use Rattle.prefix_list.specs.declared.reading.ListFault.{ListFault}
use Rattle.prefix_list.specs.declared.reading.ListFault.TheVariants.{Line, Memory}
use Rattle.prefix_list.specs.Lists.{AreOf}
use Rattle.prefix_list.specs.Styles.{front_of}
use Rattle.prefix_list.specs.Reading as reading
use Rattle.prefix_list.specs.Reading.{lines_of, IsLine, LinesName, IsFirstWithout, IsList, IsRefused}
use Rattle.prefix_list.specs.Forms.{Matches, Takes, IsFault}
use Rattle.prefix_list.proofs.Lines.{formed_is_one}

-- ---- one more line

names_skip : (P : List ℕ → Cidr → Type 0) (ls : List (List ℕ)) (bs : List Cidr) → LinesName P ls bs → LinesName P (ls ++ [] ∷ []) bs
names_skip P [] bs h = h
names_skip P ([] ∷ ls) bs h = names_skip P ls bs h
names_skip P ((x ∷ xs) ∷ ls) bs (b, others, is, e, rest) = (b, others, is, e, names_skip P ls others rest)

names_block : (P : List ℕ → Cidr → Type 0) (ls : List (List ℕ)) (bs : List Cidr) (x : ℕ) (xs : List ℕ) (b : Cidr) → LinesName P ls bs → P (x ∷ xs) b
    → LinesName P (ls ++ (x ∷ xs) ∷ []) (bs ++ b ∷ [])
names_block P [] bs x xs b h is = (b, [], is, ap (λ (cs : List Cidr). cs ++ b ∷ []) h, refl)
names_block P ([] ∷ ls) bs x xs b h is = names_block P ls bs x xs b h is
names_block P ((y ∷ ys) ∷ ls) bs x xs b (c, others, one, e, rest) is =
    (c, others ++ b ∷ [], one, ap (λ (cs : List Cidr). cs ++ b ∷ []) e, names_block P ls others x xs b rest is)

names_written : (P : List ℕ → Cidr → Type 0) (ls : List (List ℕ)) (bs : List Cidr) (line : List ℕ) (b : Cidr) → LinesName P ls bs → line ≢ [] → P line b
    → LinesName P (ls ++ line ∷ []) (bs ++ b ∷ [])
names_written P ls bs [] b h written is = absurd (written refl)
names_written P ls bs (x ∷ xs) b h written is = names_block P ls bs x xs b h is

pub names_more : (form : Form) (number : ℕ) (ls : List (List ℕ)) (line : List ℕ) (old new : List Cidr) → LinesName (Matches form) ls old
    → ((line ≡ []) × (new ≡ old)) ⊎ ((line ≢ []) × (b : Cidr) × Matches form line b × (new ≡ old ++ b ∷ [])) → LinesName (Matches form) (ls ++ line ∷ []) new
names_more form number ls line old new h (inl (none, same)) =
    subst (λ (l : List ℕ). LinesName (Matches form) (ls ++ l ∷ []) new) (sym none)
    (names_skip (Matches form) ls new (subst (LinesName (Matches form) ls) (sym same) h))
names_more form number ls line old new h (inr (written, b, is, e)) =
    subst (LinesName (Matches form) (ls ++ line ∷ [])) (sym e) (names_written (Matches form) ls old line b h written is)

-- the lines before the rest were read
pub record IsAt (P : List ℕ → Cidr → Type 0) (bytes rest : List ℕ) (number : ℕ) (blocks : List Cidr) : Type 0 where
  pub before : List (List ℕ)
  pub split : lines_of bytes ≡ before ++ lines_of rest
  pub count : number ≡ length before
  pub named : LinesName P before blocks

pub at_begin : (P : List ℕ → Cidr → Type 0) (bytes : List ℕ) → IsAt P bytes bytes 0 []
at_begin P bytes = record { before = []; split = refl; count = refl; named = refl }

length_more : {X : Type 0} (xs : List X) (x : X) → length (xs ++ x ∷ []) ≡ length xs + 1
length_more [] x = refl
length_more (y ∷ xs) x = (let h = length_more xs x in omega arith)

pub at_more : (form : Form) (bytes rest line more : List ℕ) (number next : ℕ) (old new : List Cidr) → IsAt (Matches form) bytes rest number old
    → lines_of rest ≡ line ∷ lines_of more → next ≡ number + 1
    → ((line ≡ []) × (new ≡ old)) ⊎ ((line ≢ []) × (b : Cidr) × Matches form line b × (new ≡ old ++ b ∷ [])) → IsAt (Matches form) bytes more next new
at_more form bytes rest line more number next old new at cut is taken = record {
  before = at.before ++ line ∷ [];
  split = at.split ∙ ap (λ (ls : List (List ℕ)). at.before ++ ls) cut ∙ sym (append_assoc at.before (line ∷ []) (lines_of more));
  count = is ∙ ap (λ (n : ℕ). n + 1) at.count ∙ sym (length_more at.before line);
  named = names_more form number at.before line old new at.named taken;
}

pub at_end : (form : Form) (bytes rest line : List ℕ) (number : ℕ) (old new : List Cidr) → IsAt (Matches form) bytes rest number old → lines_of rest ≡ line ∷ []
    → ((line ≡ []) × (new ≡ old)) ⊎ ((line ≢ []) × (b : Cidr) × Matches form line b × (new ≡ old ++ b ∷ [])) → LinesName (Matches form) (lines_of bytes) new
at_end form bytes rest line number old new at cut taken =
    subst (λ (ls : List (List ℕ)). LinesName (Matches form) ls new) (sym (at.split ∙ ap (λ (ls : List (List ℕ)). at.before ++ ls) cut))
    (names_more form number at.before line old new at.named taken)

-- a line that is refused
pub at_refused : (P : List ℕ → Cidr → Type 0) (bytes rest line : List ℕ) (after : List (List ℕ)) (number n : ℕ) (blocks : List Cidr) → IsAt P bytes rest number blocks
    → lines_of rest ≡ line ∷ after → n ≡ number + 1 → line ≢ [] → ((b : Cidr) → ¬ P line b) → IsFirstWithout P bytes n
at_refused P bytes rest line after number n blocks at cut is written none = record {
  before = at.before;
  line = line;
  after = after;
  blocks = blocks;
  split = at.split ∙ ap (λ (ls : List (List ℕ)). at.before ++ ls) cut;
  number_is = is ∙ ap (λ (k : ℕ). k + 1) at.count;
  named = at.named;
  written = written;
  none = none;
}

-- ---- lines that name blocks in another relation

pub names_weaker : (P Q : List ℕ → Cidr → Type 0) → ((l : List ℕ) (b : Cidr) → P l b → Q l b) → (ls : List (List ℕ)) (bs : List Cidr) → LinesName P ls bs → LinesName Q ls bs
names_weaker P Q f [] bs h = h
names_weaker P Q f ([] ∷ ls) bs h = names_weaker P Q f ls bs h
names_weaker P Q f ((x ∷ xs) ∷ ls) bs (b, others, is, e, rest) = (b, others, f (x ∷ xs) b is, e, names_weaker P Q f ls others rest)

first_weaker : (P Q : List ℕ → Cidr → Type 0) → ((l : List ℕ) (b : Cidr) → P l b → Q l b) → ((l : List ℕ) (b : Cidr) → Q l b → P l b)
    → (bytes : List ℕ) (n : ℕ) → IsFirstWithout P bytes n → IsFirstWithout Q bytes n
first_weaker P Q f g bytes n h = record {
  before = h.before;
  line = h.line;
  after = h.after;
  blocks = h.blocks;
  split = h.split;
  number_is = h.number_is;
  named = names_weaker P Q f h.before h.blocks h.named;
  written = h.written;
  none = λ b is. h.none b (g h.line b is);
}

pub fault_weaker : (P Q : List ℕ → Cidr → Type 0) → ((l : List ℕ) (b : Cidr) → P l b → Q l b) → ((l : List ℕ) (b : Cidr) → Q l b → P l b)
    → (bytes : List ℕ) (fault : ListFault) → IsFault P bytes fault → IsFault Q bytes fault
fault_weaker P Q f g bytes (Line n) h = first_weaker P Q f g bytes n h
fault_weaker P Q f g bytes Memory h = h

-- ---- what blocks a list names

pub names_all : (P : List ℕ → Cidr → Type 0) (S : Cidr → Type 0) → ((l : List ℕ) (b : Cidr) → P l b → S b) → (ls : List (List ℕ)) (bs : List Cidr) → LinesName P ls bs → AllByRecursion S bs
names_all P S f [] bs h = subst (AllByRecursion S) (sym h) tt
names_all P S f ([] ∷ ls) bs h = names_all P S f ls bs h
names_all P S f ((x ∷ xs) ∷ ls) bs (b, others, is, e, rest) = subst (AllByRecursion S) (sym e) (f (x ∷ xs) b is, names_all P S f ls others rest)

-- ---- one reading

names_one : (P : List ℕ → Cidr → Type 0) → ((l : List ℕ) (b c : Cidr) → P l b → P l c → b ≡ c) → (ls : List (List ℕ)) (bs cs : List Cidr) → LinesName P ls bs → LinesName P ls cs → bs ≡ cs
names_one P one [] bs cs h k = h ∙ sym k
names_one P one ([] ∷ ls) bs cs h k = names_one P one ls bs cs h k
names_one P one ((x ∷ xs) ∷ ls) bs cs (b, others, is, e, rest) (c, more, was, f, rest2) =
    e ∙ ap (λ (d : Cidr). d ∷ others) (one (x ∷ xs) b c is was) ∙ ap (λ (ds : List Cidr). c ∷ ds) (names_one P one ls others more rest rest2) ∙ sym f

names_tail : (P : List ℕ → Cidr → Type 0) (l : List ℕ) (ls : List (List ℕ)) (bs : List Cidr) → LinesName P (l ∷ ls) bs → (cs : List Cidr) × LinesName P ls cs
names_tail P [] ls bs h = (bs, h)
names_tail P (x ∷ xs) ls bs (b, others, is, e, rest) = (others, rest)

names_head : (P : List ℕ → Cidr → Type 0) (l : List ℕ) (ls : List (List ℕ)) (bs : List Cidr) → LinesName P (l ∷ ls) bs → l ≢ [] → (b : Cidr) × P l b
names_head P [] ls bs h written = absurd (written refl)
names_head P (x ∷ xs) ls bs (b, others, is, e, rest) written = (b, is)

heads : (l m : List ℕ) (ls ms : List (List ℕ)) → l ∷ ls ≡ m ∷ ms → l ≡ m
heads l m ls ms e = cc

tails : (l m : List ℕ) (ls ms : List (List ℕ)) → l ∷ ls ≡ m ∷ ms → ls ≡ ms
tails l m ls ms e = cc

-- where a line is refused, the lines up to it name no blocks
none_named : (P : List ℕ → Cidr → Type 0) (before : List (List ℕ)) (line : List ℕ) (after : List (List ℕ)) (bs : List Cidr) → LinesName P (before ++ line ∷ after) bs
    → line ≢ [] → ((b : Cidr) → ¬ P line b) → ⊥
none_named P [] line after bs h written none = (let k = names_head P line after bs h written in none k.0 k.1)
none_named P (l ∷ before) line after bs h written none =
    (let k = names_tail P l (before ++ line ∷ after) bs h in none_named P before line after k.0 k.1 written none)

one_place : (P : List ℕ → Cidr → Type 0) (before : List (List ℕ)) (line : List ℕ) (after before' : List (List ℕ)) (line' : List ℕ) (after' : List (List ℕ)) (bs bs' : List Cidr)
    → before ++ line ∷ after ≡ before' ++ line' ∷ after' → LinesName P before bs → LinesName P before' bs' → line ≢ [] → line' ≢ []
    → ((b : Cidr) → ¬ P line b) → ((b : Cidr) → ¬ P line' b) → length before ≡ length before'
one_place P [] line after [] line' after' bs bs' e h k w w' none none' = refl
one_place P [] line after (m ∷ ms) line' after' bs bs' e h k w w' none none' =
    let same = heads line m after (ms ++ line' ∷ after') e in
    let one = names_head P m ms bs' k (λ empty. w (same ∙ empty)) in
    absurd (none one.0 (subst (λ (l : List ℕ). P l one.0) (sym same) one.1))
one_place P (l ∷ ls) line after [] line' after' bs bs' e h k w w' none none' =
    let same = heads l line' (ls ++ line ∷ after) after' e in
    let one = names_head P l ls bs h (λ empty. w' (sym same ∙ empty)) in
    absurd (none' one.0 (subst (λ (x : List ℕ). P x one.0) same one.1))
one_place P (l ∷ ls) line after (m ∷ ms) line' after' bs bs' e h k w w' none none' =
    let a = names_tail P l ls bs h in
    let b = names_tail P m ms bs' k in
    ap (λ (n : ℕ). suc n) (one_place P ls line after ms line' after' a.0 b.0 (tails l m (ls ++ line ∷ after) (ms ++ line' ∷ after') e) a.1 b.1 w w' none none')

line_is_one : (style : Style) (name : List ℕ) (family : Family) (l : List ℕ) (b c : Cidr) → IsLine style name family l b → IsLine style name family l c → b ≡ c
line_is_one style name family l b c h k = formed_is_one style (front_of style name family) family l b c h.formed k.formed

refusals : (style : Style) (name : List ℕ) (family : Family) (bytes : List ℕ) (m n : ℕ) → IsRefused style name family bytes m → IsRefused style name family bytes n → m ≡ n
refusals style name family bytes m n h k =
    h.number_is ∙ ap (λ (i : ℕ). i + 1) (one_place (IsLine style name family) h.before h.line h.after k.before k.line k.after h.blocks k.blocks
    (sym h.split ∙ k.split) h.named k.named h.written k.written h.none k.none) ∙ sym k.number_is

apart : (style : Style) (name : List ℕ) (family : Family) (bytes : List ℕ) (bs : List Cidr) (n : ℕ) → IsList style name family bytes bs → ¬ IsRefused style name family bytes n
apart style name family bytes bs n h k =
    none_named (IsLine style name family) k.before k.line k.after bs (subst (λ (ls : List (List ℕ)). LinesName (IsLine style name family) ls bs) k.split h) k.written k.none

pub reading_is_one : reading.ReadingIsOne
reading_is_one = record {
  lists = λ style name family bytes bs cs h k. names_one (IsLine style name family) (line_is_one style name family) (lines_of bytes) bs cs h k;
  refusals = refusals;
  apart = apart;
}

-- where a line is refused, that is the answer
pub refused : (style : Style) (name : List ℕ) (family : Family) (bytes : List ℕ) (r : Result (Vec Cidr Global) ListFault) → IfOk r (λ v. IsList style name family bytes v.items)
    → IfErr r (IsFault (IsLine style name family) bytes) → (n : ℕ) → IsRefused style name family bytes n → (r ≡ Err (Line n)) ⊎ (r ≡ Err Memory)
refused style name family bytes (Ok v) h k n is = absurd (apart style name family bytes v.items n h is)
refused style name family bytes (Err (Line m)) h k n is = inl (ap (λ (i : ℕ). Err (Line i)) (refusals style name family bytes m n k is))
refused style name family bytes (Err Memory) h k n is = inr refl
