-- What a reader knows after a read, and what the writer shows.
use Rattle.std.proofs.Common.{◌≡◌, ℕ, List, [], ◌∷◌, length, fold, refl, sym, ap, ◌∙◌, subst, Option, Some, Result, Ok, Err, MatchResult}
use mathlib.Core.List.{IsPrefix}
use Rattle.logbook.specs.Pages.{Book}
use Rattle.snapshot_reads.specs.declared.copies.Twin.{Twin}
use Rattle.snapshot_reads.specs.declared.copies.Known.{Known}
use Rattle.snapshot_reads.specs.Following.{HasSeen}
use Rattle.snapshot_reads.specs.Seen.{LookView, opening_of, IsReading, Grows, IsFound}
use Rattle.snapshot_reads.proofs.Lists.{prefix_same, prefix_trans}

-- nothing is pending: the next copy is like the shown one
pub shown_same : {S E : Type 0} (f : S → E → S) (x y : S) (es : List E) → es ≡ [] → y ≡ fold f x es → y ≡ x
shown_same f x y es e h = h ∙ ap (fold f x) e

-- one operation is pending
pub shown_one : {S E : Type 0} (f : S → E → S) (x y : S) (es : List E) (o : E) → es ≡ o ∷ [] → y ≡ fold f x es → y ≡ f x o
shown_one f x y es o e h = h ∙ ap (fold f x) e

module _ {K L C : Type 0} (lists : K → L) (after : L → C → L) (v w : Option (Known L C)) (x : Twin K C) (book told_book : Book) (seen told : List C) where
  pub knows_on : (now_book : Book) (now : List C) → HasSeen lists after v x x w → IsReading v book seen told_book told → now_book ≡ x.seen.book → now ≡ x.seen.log → IsReading w now_book now told_book told
  knows_on now_book now then r same log =
      let k = r.0 in let sight = then k r.1 in let k' : Known L C = record k { seen = x.seen } in (
        k',
        sight.view,
        sym same,
        sym sight.book ∙ r.3,
        prefix_same now x.seen.log log,
        prefix_trans told k.seen.log x.seen.log r.5 sight.more,
      )

  pub grows_on : (now_book : Book) (now : List C) → HasSeen lists after v x x w → IsReading v book seen told_book told → now_book ≡ x.seen.book → now ≡ x.seen.log
      → Grows (record { book = book; opening = opening_of v; seen = seen; told = told }) (record { book = now_book; opening = opening_of w; seen = now; told = told })
  grows_on now_book now then r same log =
      let k = r.0 in let sight = then k r.1 in record {
        book = same ∙ (sym sight.book ∙ r.2);
        opening = ap opening_of sight.view ∙ sym (ap opening_of r.1);
        seen = subst (λ (l : List C). IsPrefix seen l) (sym log) (prefix_trans seen k.seen.log x.seen.log r.4 sight.more);
        told = prefix_same told told refl;
      }

  -- a reader that took a copy still knows what it knew, by the same lists from the beginning
  pub knows_still : HasSeen lists after v x x w → IsReading v book seen told_book told → IsReading w book seen told_book told
  knows_still then r =
      let k = r.0 in let sight = then k r.1 in let k' : Known L C = record k { seen = x.seen } in (
        k',
        sight.view,
        sym sight.book ∙ r.2,
        sym sight.book ∙ r.3,
        prefix_trans seen k.seen.log x.seen.log r.4 sight.more,
        prefix_trans told k.seen.log x.seen.log r.5 sight.more,
      )

  pub opens_still : HasSeen lists after v x x w → IsReading v book seen told_book told → opening_of w ≡ opening_of v
  opens_still then r = let sight = then r.0 r.1 in ap opening_of sight.view ∙ sym (ap opening_of r.1)

  pub found_on : (n : ℕ) (now_book : Book) (now : List C) → HasSeen lists after v x x w → IsReading v book seen told_book told → n ≡ x.count → now ≡ x.seen.log
      → IsFound n (record { book = book; opening = opening_of v; seen = seen; told = told }) (record { book = now_book; opening = opening_of w; seen = now; told = told })
  found_on n now_book now then r count log =
      let k = r.0 in let sight = then k r.1 in record {
        number = count ∙ (sight.count ∙ ap length (sym log));
        told = subst (λ (l : List C). IsPrefix told l) (sym log) (prefix_trans told k.seen.log x.seen.log r.5 sight.more);
      }

  -- the lists of the copy, by the lists that the reader knows from the beginning
  pub lists_on : (now : List C) → HasSeen lists after v x x w → IsReading v book seen told_book told → now ≡ x.seen.log
      → (o : L) × (opening_of w ≡ Some o) × (lists x.value ≡ fold after o now)
  lists_on now then r log =
      let k = r.0 in let sight = then k r.1 in (k.opening.value, ap opening_of sight.view, sight.lists_are ∙ ap (fold after k.opening.value) (sym log))

-- what holds of an answer that came
pub match_ok : {T E : Type 0} (P : T → Type 0) (Q : E → Type 0) (r : Result T E) (x : T) → r ≡ Ok x → MatchResult r P Q → P x
match_ok P Q (Ok y) x e p = subst P (cc e) p
match_ok P Q (Err y) x e p = absurd (cc e)

pub match_err : {T E : Type 0} (P : T → Type 0) (Q : E → Type 0) (r : Result T E) (x : E) → r ≡ Err x → MatchResult r P Q → Q x
match_err P Q (Ok y) x e p = absurd (cc e)
match_err P Q (Err y) x e p = subst Q (cc e) p

-- a look that stayed the same has what it had
pub grows_same : {L C : Type 0} (before now : LookView L C) → now ≡ before → Grows before now
grows_same before now same = record {
  book = ap (λ l. l.book) same;
  opening = ap (λ l. l.opening) same;
  seen = prefix_same before.seen now.seen (ap (λ l. l.seen) (sym same));
  told = prefix_same before.told now.told (ap (λ l. l.told) (sym same));
}

-- one that had more, and then more, has more
pub grows_trans : {L C : Type 0} (before mid now : LookView L C) → Grows before mid → Grows mid now → Grows before now
grows_trans before mid now first then = record {
  book = then.book ∙ first.book;
  opening = then.opening ∙ first.opening;
  seen = prefix_trans before.seen mid.seen now.seen first.seen then.seen;
  told = prefix_trans before.told mid.told now.told first.told then.told;
}
