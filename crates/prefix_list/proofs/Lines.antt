-- One line: what follows its front, and the block that it names.
use Rattle.std.proofs.Common.{◌≡◌, ◌≢◌, ℕ, ◌<◌, refl, sym, ◌∙◌, ap, subst, List, [], ◌∷◌, ◌++◌, IsTrue, Option, Some, None, MatchOption, IfSome, IfNone}
use Rattle.std.proofs.lemmas.List.{append_cancel_left}
use Rattle.inet_num.specs.declared.Family.{Family}
use Rattle.inet_num.specs.Net.{Cidr}
use Rattle.inet_num.specs.Text.{IsBlockText}
use Rattle.inet_num.proofs.Readings.{reading_is_one}
use Rattle.prefix_list.specs.declared.styles.Style.{Style}
use Rattle.prefix_list.specs.declared.reading.Form.{Form}
use Rattle.prefix_list.specs.Styles.{front_of, number_of}
use Rattle.prefix_list.specs.Reading.{CanName, IsFormed, IsLine}
use Rattle.prefix_list.specs.Forms.{Matches, IsFormOf}
use Rattle.prefix_list.proofs.Numbers.{behind_is_one}

pub some_weaker : {T : Type 0} (r : Option T) {P Q : T → Type 0} → ((x : T) → P x → Q x) → IfSome r P → IfSome r Q
some_weaker (Some x) f h = f x h
some_weaker None f h = tt

pub none_weaker : {T : Type 0} (r : Option T) {P Q : Type 0} → (P → Q) → IfNone r P → IfNone r Q
none_weaker (Some x) f h = tt
none_weaker None f h = f h

pub no_front : (style : Style) (front : List ℕ) (family : Family) (line : List ℕ) → ((rest : List ℕ) → line ≢ front ++ rest) → (b : Cidr) → ¬ IsFormed style front family line b
no_front style front family line none b f = none (number_of style f.number ++ f.text) f.form

rest_is : (front line rest more : List ℕ) → line ≡ front ++ rest → line ≡ front ++ more → rest ≡ more
rest_is front line rest more e f = append_cancel_left front rest more (sym e ∙ f)

pub no_number_behind : (style : Style) (front : List ℕ) (family : Family) (line rest : List ℕ) → line ≡ front ++ rest
    → ((n : ℕ) (text : List ℕ) → n < 10000000000 → rest ≢ number_of style n ++ text) → (b : Cidr) → ¬ IsFormed style front family line b
no_number_behind style front family line rest e none b f =
    none f.number f.text f.short (rest_is front line rest (number_of style f.number ++ f.text) e f.form)

-- the text behind a front and a number is one
one_text : (style : Style) (front : List ℕ) (family : Family) (line rest text : List ℕ) (n : ℕ) (b : Cidr) → line ≡ front ++ rest → n < 10000000000
    → rest ≡ number_of style n ++ text → (f : IsFormed style front family line b) → f.text ≡ text
one_text style front family line rest text n b e small is f =
    sym (behind_is_one style n f.number text f.text small f.short (sym is ∙ rest_is front line rest (number_of style f.number ++ f.text) e f.form))

pub no_block_behind : (style : Style) (front : List ℕ) (family : Family) (line rest text : List ℕ) (n : ℕ) → line ≡ front ++ rest → n < 10000000000
    → rest ≡ number_of style n ++ text → ((b : Cidr) → IsBlockText text b → b.family ≢ family) → (b : Cidr) → ¬ IsFormed style front family line b
no_block_behind style front family line rest text n e small is none b f =
    none b (subst (λ (t : List ℕ). IsBlockText t b) (one_text style front family line rest text n b e small is f) f.block) f.family_is

pub formed_by : (style : Style) (front : List ℕ) (family : Family) (line rest text : List ℕ) (n : ℕ) (b : Cidr) → line ≡ front ++ rest → n < 10000000000
    → rest ≡ number_of style n ++ text → IsBlockText text b → b.family ≡ family → IsFormed style front family line b
formed_by style front family line rest text n b e small is block own = record {
  number = n;
  text = text;
  short = small;
  form = e ∙ ap (λ (r : List ℕ). front ++ r) is;
  block = block;
  family_is = own;
}

pub formed_is_one : (style : Style) (front : List ℕ) (family : Family) (line : List ℕ) (b c : Cidr) → IsFormed style front family line b → IsFormed style front family line c → b ≡ c
formed_is_one style front family line b c f g =
    let same = one_text style front family line (number_of style f.number ++ f.text) f.text f.number c f.form f.short refl g in
    reading_is_one.blocks f.text b c f.block (subst (λ (t : List ℕ). IsBlockText t c) same g.block)

-- a line of the form is one of the style, and the other way round
pub matches_line : (style : Style) (name : List ℕ) (family : Family) (form : Form) → IsFormOf style name family form → (line : List ℕ) (b : Cidr) → Matches form line b → IsLine style name family line b
matches_line style name family form of line b h = record {
  named = of.named_is.0 h.named;
  formed = subst (λ (f : Family). IsFormed style (front_of style name family) f line b) of.family_is
      (subst (λ (front : List ℕ). IsFormed style front form.family line b) of.front_is
      (subst (λ (s : Style). IsFormed s form.front.items form.family line b) of.style_is h.formed));
}

pub line_matches : (style : Style) (name : List ℕ) (family : Family) (form : Form) → IsFormOf style name family form → (line : List ℕ) (b : Cidr) → IsLine style name family line b → Matches form line b
line_matches style name family form of line b h = record {
  named = of.named_is.1 h.named;
  formed = subst (λ (s : Style). IsFormed s form.front.items form.family line b) (sym of.style_is)
      (subst (λ (front : List ℕ). IsFormed style front form.family line b) (sym of.front_is)
      (subst (λ (f : Family). IsFormed style (front_of style name family) f line b) (sym of.family_is) h.formed));
}

pub at_some : {T : Type 0} (r : Option T) (x : T) (P : Type 0) (Q : T → Type 0) → r ≡ Some x → MatchOption r P Q → Q x
at_some {T} r x P Q e h = subst (λ (o : Option T). MatchOption o P Q) e h

pub at_none : {T : Type 0} (r : Option T) (P : Type 0) (Q : T → Type 0) → r ≡ None → MatchOption r P Q → P
at_none {T} r P Q e h = subst (λ (o : Option T). MatchOption o P Q) e h

pub if_some : {T : Type 0} (r : Option T) (x : T) (P : T → Type 0) → r ≡ Some x → IfSome r P → P x
if_some {T} r x P e h = subst (λ (o : Option T). IfSome o P) e h

pub if_none : {T : Type 0} (r : Option T) (P : Type 0) → r ≡ None → IfNone r P → P
if_none {T} r P e h = subst (λ (o : Option T). IfNone o P) e h
