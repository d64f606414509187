-- An input has one answer: its children are determined, and so is its first refused line.
use Rattle.std.proofs.Common.{◌≡◌, ℕ, ◌+◌, ◌<◌, ◌≤◌, refl, sym, ◌∙◌, ap, subst, arith, inl, inr, List, [], ◌∷◌, ◌++◌, length, length-append, Option, Some, None, IfSome}
use Rattle.std.specs.Str.Lines.{lines}
use Rattle.std.proofs.lemmas.Bool.{cases_lt}
use Rattle.inet_num.specs.declared.text.TextFault.TheVariants as Bits
use Rattle.inet_num.specs.Net.{Cidr, IsStrictlyInside}
use Rattle.inet_num.specs.Free.{available_blocks_of}
use Rattle.inet_num.proofs.Readings.{reading_is_one}
use Rattle.command_free.specs.declared.free.LineFault.{LineFault}
use Rattle.command_free.specs.declared.free.LineFault.TheVariants.{NotAPrefix, HostBits, NotInside, TooManyLines}
use Rattle.std.specs.List.{AllByRecursion}
use Rattle.command_streams.specs.Streams.{Told, Gains}
use Rattle.command_free.specs.Run.{PrintsFree}
use Rattle.command_free.specs.Free.{most_lines, IsLineOf, AreChildren, IsLineFault, IsRefusedLine, IsFreeText, lines_text_of, FreeHasOneAnswer}

one_child : (line : List ℕ) (b c : Cidr) → IsLineOf line b → IsLineOf line c → b ≡ c
one_child line b c h k = reading_is_one.blocks line b c h.text k.text

-- the children of lines are determined
one_list_of_children : (within : Cidr) (ls : List (List ℕ)) (cs ds : List Cidr) → AreChildren within ls cs → AreChildren within ls ds → cs ≡ ds
one_list_of_children within [] cs ds h k = h ∙ sym k
one_list_of_children within ([] ∷ ls) cs ds h k = one_list_of_children within ls cs ds h k
one_list_of_children within ((x ∷ xs) ∷ ls) cs ds (b, bs, one, is, rest) (c, es, other, is_too, rest_too) =
    let heads : b ≡ c = one_child (x ∷ xs) b c one.named other.named in
    let tails : bs ≡ es = one_list_of_children within ls bs es rest rest_too in
    is ∙ ap (λ (y : Cidr). y ∷ bs) heads ∙ ap (λ (ys : List Cidr). c ∷ ys) tails ∙ sym is_too

-- a line that is read is not refused, unless it comes too late
not_refused : (within : Cidr) (before after : List (List ℕ)) (line : List ℕ) (cs : List Cidr) (number : ℕ) (fault : LineFault)
    → AreChildren within (before ++ line ∷ after) cs → number ≤ most_lines → ¬ IsLineFault within number line fault
not_refused within [] after [] cs number NotAPrefix h few f = f.1 refl
not_refused within [] after [] cs number NotInside h few (low, b, named, out) = (let e = named.text.length_is in cc)
not_refused within [] after [] cs number (HostBits b) h few f = (let e = f.1.set.length_is in cc)
not_refused within [] after line cs number TooManyLines h few f = omega arith
not_refused within [] after (x ∷ xs) cs number NotAPrefix (b, bs, one, is, rest) few f = f.2 b one.named
not_refused within [] after (x ∷ xs) cs number (HostBits c) (b, bs, one, is, rest) few f = reading_is_one.apart (x ∷ xs) b (Bits.HostBits c) one.named.text f.1.set
not_refused within [] after (x ∷ xs) cs number NotInside (b, bs, one, is, rest) few (low, c, named, out) =
    out (subst (λ (y : Cidr). IsStrictlyInside y within) (one_child (x ∷ xs) b c one.named named) one.inside)
not_refused within ([] ∷ before) after line cs number fault h few f = not_refused within before after line cs number fault h few f
not_refused within ((x ∷ xs) ∷ before) after line cs number fault (b, bs, one, is, rest) few f = not_refused within before after line bs number fault rest few f

-- a line behind lines that are read, and among lines that are read
outputs : (within : Cidr) (input one other : List ℕ) → IsFreeText within input one → IsFreeText within input other → one ≡ other
outputs within input one other h k =
    h.text ∙ ap (λ (cs : List Cidr). lines_text_of (available_blocks_of within cs)) (one_list_of_children within (lines input) h.children k.children h.named k.named) ∙ sym k.text

apart : (within : Cidr) (input output : List ℕ) (n : ℕ) (f : LineFault) → IsFreeText within input output → ¬ IsRefusedLine within input n f
apart within input output n f h k =
    let len : length (lines input) ≡ length (k.before ++ k.line ∷ k.after) = ap length k.split in
    let more : length (k.before ++ k.line ∷ k.after) ≡ length k.before + length (k.line ∷ k.after) = length-append k.before (k.line ∷ k.after) in
    let few = h.few in
    let is = k.number_is in
    not_refused within k.before k.after k.line h.children n f (subst (λ (ls : List (List ℕ)). AreChildren within ls h.children) k.split h.named) (omega arith) k.refused

-- where two lists are one, the shorter beginning is one of the longer
same_place : (xs ys : List (List ℕ)) (x y : List ℕ) (more others : List (List ℕ)) → xs ++ x ∷ more ≡ ys ++ y ∷ others → length xs ≡ length ys → x ≡ y
same_place [] [] x y more others e l = cc
same_place [] (b ∷ ys) x y more others e l = absurd (omega arith)
same_place (a ∷ xs) [] x y more others e l = absurd (omega arith)
same_place (a ∷ xs) (b ∷ ys) x y more others e l = (let tails : xs ++ x ∷ more ≡ ys ++ y ∷ others = cc in same_place xs ys x y more others tails (omega arith))

-- a line before the end of a beginning stands in it
earlier : (xs ys : List (List ℕ)) (x : List ℕ) (more others : List (List ℕ)) → xs ++ x ∷ more ≡ ys ++ others → length xs < length ys → (rest : List (List ℕ)) × (ys ≡ xs ++ x ∷ rest)
earlier xs [] x more others e l = absurd (omega arith)
earlier [] (b ∷ ys) x more others e l = (ys, (let heads : x ≡ b = cc in ap (λ (z : List ℕ). z ∷ ys) (sym heads)))
earlier (a ∷ xs) (b ∷ ys) x more others e l =
    let tails : xs ++ x ∷ more ≡ ys ++ others = cc in
    let heads : a ≡ b = cc in
    let found = earlier xs ys x more others tails (omega arith) in
    (found.0, ap (λ (z : List ℕ). z ∷ ys) (sym heads) ∙ ap (λ (zs : List (List ℕ)). a ∷ zs) found.1)

-- a refused line does not stand before another first refused line
not_before : (within : Cidr) (input : List ℕ) (m n : ℕ) (f g : LineFault) → IsRefusedLine within input m f → IsRefusedLine within input n g → m < n → ⊥
not_before within input m n f g h k less =
    let is = h.number_is in
    let is_too = k.number_is in
    let few = k.few in
    let found = earlier h.before k.before h.line h.after (k.line ∷ k.after) (sym h.split ∙ k.split) (omega arith) in
    not_refused within h.before found.0 h.line k.children m f (subst (λ (ls : List (List ℕ)). AreChildren within ls k.children) found.1 k.named) (omega arith) h.refused

-- one line has one fault
same_fault : (within : Cidr) (n : ℕ) (line : List ℕ) (f g : LineFault) → IsLineFault within n line f → IsLineFault within n line g → f ≡ g
same_fault within n line NotAPrefix NotAPrefix h k = refl
same_fault within n line NotAPrefix (HostBits c) h k = absurd (h.3 c k.1)
same_fault within n line NotAPrefix NotInside h k = absurd (h.2 k.1 k.2)
same_fault within n line NotAPrefix TooManyLines h k = (let low = h.0 in absurd (omega arith))
same_fault within n line (HostBits b) NotAPrefix h k = absurd (k.3 b h.1)
same_fault within n line (HostBits b) (HostBits c) h k = (let e = reading_is_one.faults line (Bits.HostBits b) (Bits.HostBits c) h.1.set k.1.set in let same : b ≡ c = cc in ap HostBits same)
same_fault within n line (HostBits b) NotInside h k = absurd (reading_is_one.apart line k.1 (Bits.HostBits b) k.2.text h.1.set)
same_fault within n line (HostBits b) TooManyLines h k = (let low = h.0 in absurd (omega arith))
same_fault within n line NotInside NotAPrefix h k = absurd (k.2 h.1 h.2)
same_fault within n line NotInside (HostBits c) h k = absurd (reading_is_one.apart line h.1 (Bits.HostBits c) h.2.text k.1.set)
same_fault within n line NotInside NotInside h k = refl
same_fault within n line NotInside TooManyLines h k = (let low = h.0 in absurd (omega arith))
same_fault within n line TooManyLines NotAPrefix h k = (let low = k.0 in absurd (omega arith))
same_fault within n line TooManyLines (HostBits c) h k = (let low = k.0 in absurd (omega arith))
same_fault within n line TooManyLines NotInside h k = (let low = k.0 in absurd (omega arith))
same_fault within n line TooManyLines TooManyLines h k = refl

same_number : (within : Cidr) (input : List ℕ) (m n : ℕ) (f g : LineFault) → IsRefusedLine within input m f → IsRefusedLine within input n g → m ≡ n
same_number within input m n f g h k = elim (cases_lt m n) [
  | inl less ↦ absurd (not_before within input m n f g h k less)
  | inr le ↦ elim (cases_lt n m) [ inl less ↦ absurd (not_before within input n m g f k h less) | inr ge ↦ omega arith ]
]

refusals : (within : Cidr) (input : List ℕ) (m n : ℕ) (f g : LineFault) → IsRefusedLine within input m f → IsRefusedLine within input n g → (m ≡ n) × (f ≡ g)
refusals within input m n f g h k =
    let number = same_number within input m n f g h k in
    let is = h.number_is in
    let is_too = k.number_is in
    let line : h.line ≡ k.line = same_place h.before k.before h.line k.line h.after k.after (sym h.split ∙ k.split) (omega arith) in
    (number, same_fault within n k.line f g (subst (λ (l : List ℕ). IsLineFault within n l f) line (subst (λ (i : ℕ). IsLineFault within i h.line f) number h.refused)) k.refused)

pub one_answer : FreeHasOneAnswer
one_answer = record { outputs = outputs; refusals = refusals; apart = apart }

-- lines that are read name blocks strictly inside
pub all_inside : (within : Cidr) (ls : List (List ℕ)) (cs : List Cidr) → AreChildren within ls cs → AllByRecursion (λ c. IsStrictlyInside c within) cs
all_inside within [] cs h = subst (AllByRecursion (λ c. IsStrictlyInside c within)) (sym h) tt
all_inside within ([] ∷ ls) cs h = all_inside within ls cs h
all_inside within ((x ∷ xs) ∷ ls) cs (b, bs, one, is, rest) = subst (AllByRecursion (λ c. IsStrictlyInside c within)) (sym is) (one.inside, all_inside within ls bs rest)

-- where the output was printed no line is refused
pub printed_not_refused : (within : Cidr) (input_old input_new output_old output_new : Told) (number : ℕ) (fault : LineFault) (R : Type 0)
    → PrintsFree within input_old input_new output_old output_new → IfSome input_old.bytes (λ bytes. IsRefusedLine within bytes number fault → R)
printed_not_refused within input_old input_new output_old output_new number fault R printed = go input_old.bytes printed where
  go : (bytes : Option (List ℕ)) → IfSome bytes (λ input. (text : List ℕ) × IsFreeText within input text × Gains output_old output_new text × (input_new.bytes ≡ Some []))
      → IfSome bytes (λ input. IsRefusedLine within input number fault → R)
  go None p = tt
  go (Some input) p = λ refused. absurd (apart within input p.0 number fault p.1 refused)
