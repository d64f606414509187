-- Each step on the two copies keeps their rule.
use Rattle.std.proofs.Common.{◌≡◌, ◌≢◌, ℕ, ◌+◌, List, [], ◌∷◌, ◌++◌, length, fold, set, refl, sym, ap, ◌∙◌, subst, ⊎_elim, Option, Some, None, arith, length-append}
use Rattle.std.proofs.lemmas.List.Sums.{fold-append}
use mathlib.Core.Option.{some}
use mathlib.Core.List.{IsPrefix}
use lib.ListN.{get_elem?}
use Rattle.left_right.specs.Register.{Admits, TurnsAt, Forks, Merges}
use Rattle.atomic_table.proofs.Lists.{at_set, at_snoc}
use Rattle.snapshot_reads.specs.declared.copies.Twin.{Twin}
use Rattle.snapshot_reads.specs.declared.copies.Known.{Known}
use Rattle.snapshot_reads.specs.Following.{Fits, Follows, HasBegun, HasShown, HasSeen, IsSight}
use Rattle.snapshot_reads.proofs.Lists.{prefix_same, prefix_trans}

module _ {K L C : Type 0} where
  -- all that is known fits
  abbrev AllFit : L → Twin K C → List (Option (Known L C)) → Type 0
  AllFit o x views = (seat : ℕ) (k : Known L C) → get_elem? views seat ≡ some (Some k) → Fits o x k

  abbrev IfKnown : L → Twin K C → (Option (Known L C)) → Type 0
  IfKnown o x w = (k : Known L C) → w ≡ Some k → Fits o x k

  fit_set : (o : L) (x : Twin K C) (views : List (Option (Known L C))) (seat : ℕ) (w : (Option (Known L C))) → AllFit o x views → IfKnown o x w → AllFit o x (set views seat w)
  fit_set o x views seat w all mine j k e =
      ⊎_elim (λ (t : (j ≡ seat) × (w ≡ Some k)). mine k t.1) (λ (t : (j ≢ seat) × (get_elem? views j ≡ some (Some k))). all j k t.1) (at_set views seat j w (Some k) e)

  fit_snoc : (o : L) (x : Twin K C) (views : List (Option (Known L C))) (w : (Option (Known L C))) → AllFit o x views → IfKnown o x w → AllFit o x (views ++ w ∷ [])
  fit_snoc o x views w all mine j k e =
      ⊎_elim (λ (t : get_elem? views j ≡ some (Some k)). all j k t) (λ (t : w ≡ Some k). mine k t) (at_snoc views w (Some k) j e)

  fit_at : (o : L) (x : Twin K C) (views : List (Option (Known L C))) (seat : ℕ) (w : (Option (Known L C))) → AllFit o x views → get_elem? views seat ≡ some w → IfKnown o x w
  fit_at o x views seat w all at k e = all seat k (at ∙ ap some e)

  -- what fits a copy fits each later one of its history
  fit_later : (o : L) (x y : Twin K C) (views : List (Option (Known L C))) → y.seen.book ≡ x.seen.book → IsPrefix x.seen.log y.seen.log → AllFit o x views → AllFit o y views
  fit_later o x y views book more all j k e = let f = all j k e in
      record { opening = f.opening; book = f.book ∙ sym book; seen = prefix_trans k.seen.log x.seen.log y.seen.log f.seen more }

  none_fits : (o : L) (x : Twin K C) → IfKnown o x None
  none_fits o x k e = absurd (cc e)

  module _ (lists : K → L) (after : L → C → L) where
    pub opens : (x : Twin K C) → x.count ≡ 0 → x.seen.log ≡ [] → Follows lists after x (None ∷ [])
    opens x count empty = record {
      opening = lists x.value;
      count = count ∙ ap length (sym empty);
      lists_are = ap (fold after (lists x.value)) (sym empty);
      each = fit_snoc (lists x.value) x [] None (λ j k e. absurd (cc e)) (none_fits (lists x.value) x);
    }

    pub admits : Admits (Follows lists after) None
    admits x views h = record { opening = h.opening; count = h.count; lists_are = h.lists_are; each = fit_snoc h.opening x views None h.each (none_fits h.opening x) }

    pub forks : (seat : ℕ) (v : (Option (Known L C))) → Forks (Follows lists after) seat v v v
    forks seat v x views h at = let mine = fit_at h.opening x views seat v h.each at in record {
      opening = h.opening;
      count = h.count;
      lists_are = h.lists_are;
      each = fit_snoc h.opening x (set views seat v) v (fit_set h.opening x views seat v h.each mine) mine;
    }

    pub merges : (seat : ℕ) (v : (Option (Known L C))) (other : ℕ) (w : (Option (Known L C))) → Merges (Follows lists after) seat v other w w None
    merges seat v other w x views h at apart there =
        let found : get_elem? views other ≡ some w = ⊎_elim (λ (t : (other ≡ seat) × (w ≡ w)). absurd (apart t.0)) (λ (t : (other ≢ seat) × (get_elem? views other ≡ some w)). t.1) (at_set views seat other w w there) in
        let mine = fit_at h.opening x views other w h.each found in record {
          opening = h.opening;
          count = h.count;
          lists_are = h.lists_are;
          each = fit_set h.opening x (set views seat w) other None (fit_set h.opening x views seat w h.each mine) (none_fits h.opening x);
        }

    -- the writer shows a copy like the one before, of which nothing was changed yet
    pub begins : (seat : ℕ) (v : (Option (Known L C))) (x y : Twin K C) → lists y.value ≡ lists x.value → y.count ≡ x.count → y.seen ≡ x.seen → x.seen.log ≡ [] → TurnsAt (Follows lists after) seat v x y (HasBegun lists)
    begins seat v x y same count seen empty views h at =
        let k : Known L C = record { opening = record { marker = record {}; value = lists y.value }; seen = y.seen } in
        let opening : lists y.value ≡ h.opening = same ∙ (h.lists_are ∙ ap (fold after h.opening) empty) in
        let fits : Fits h.opening y k = record { opening = opening; book = refl; seen = prefix_same y.seen.log y.seen.log refl } in
        let later = fit_later h.opening x y views (ap (λ s. s.book) seen) (prefix_same x.seen.log y.seen.log (ap (λ s. s.log) (sym seen))) h.each in (
          Some k,
          record {
            opening = h.opening;
            count = count ∙ (h.count ∙ ap (λ s. length s.log) (sym seen));
            lists_are = same ∙ (h.lists_are ∙ ap (λ s. fold after h.opening s.log) (sym seen));
            each = fit_set h.opening y views seat (Some k) later (λ u e. subst (Fits h.opening y) (cc e) fits);
          },
          refl,
        )

    -- the writer shows a copy with one more change
    pub shows : (seat : ℕ) (v : (Option (Known L C))) (x y : Twin K C) (c : C) → lists y.value ≡ after (lists x.value) c → y.count ≡ x.count + 1 → y.seen.book ≡ x.seen.book → y.seen.log ≡ x.seen.log ++ c ∷ [] → (k : Known L C) → v ≡ Some k → TurnsAt (Follows lists after) seat v x y HasShown
    shows seat v x y c same count book log k known views h at =
        let was = fit_at h.opening x views seat v h.each at k known in
        let more : IsPrefix x.seen.log y.seen.log = (c ∷ [], sym log) in
        let k' : Known L C = record k { seen = y.seen } in
        let fits : Fits h.opening y k' = record { opening = was.opening; book = refl; seen = prefix_same y.seen.log y.seen.log refl } in
        let later = fit_later h.opening x y views book more h.each in (
          Some k',
          record {
            opening = h.opening;
            count = omega (arith, count, h.count, ap length log, length-append x.seen.log (c ∷ []));
            lists_are = same ∙ (ap (λ l. after l c) h.lists_are ∙ (sym (fold-append after h.opening x.seen.log (c ∷ [])) ∙ ap (fold after h.opening) (sym log)));
            each = fit_set h.opening y views seat (Some k') later (λ u e. subst (Fits h.opening y) (cc e) fits);
          },
          (λ u e. let same : k ≡ u = cc (known, e) in subst (λ (z : Known L C). Some k' ≡ Some (record z { seen = y.seen })) same refl),
        )

    -- a reader takes the copy that is shown
    pub sees : (seat : ℕ) (v : (Option (Known L C))) (x : Twin K C) → TurnsAt (Follows lists after) seat v x x (HasSeen lists after)
    sees seat None x views h at = (
      None,
      record { opening = h.opening; count = h.count; lists_are = h.lists_are; each = fit_set h.opening x views seat None h.each (none_fits h.opening x) },
      (λ u e. absurd (cc e)),
    )
    sees seat (Some k) x views h at =
        let was = fit_at h.opening x views seat (Some k) h.each at k refl in
        let k' : Known L C = record k { seen = x.seen } in
        let fits : Fits h.opening x k' = record { opening = was.opening; book = refl; seen = prefix_same x.seen.log x.seen.log refl } in
        let sight : IsSight lists after k x (Some k') = record { view = refl; book = was.book; more = was.seen; count = h.count; lists_are = h.lists_are ∙ ap (λ o. fold after o x.seen.log) (sym was.opening) } in (
          Some k',
          record { opening = h.opening; count = h.count; lists_are = h.lists_are; each = fit_set h.opening x views seat (Some k') h.each (λ u e. subst (Fits h.opening x) (cc e) fits) },
          (λ u e. subst (λ (z : Known L C). IsSight lists after z x (Some k')) (cc e) sight),
        )
