-- The table, a stem at a time.
use Rattle.std.proofs.Common.{◌≡◌, ℕ, List, [], ◌∷◌, ◌++◌, map, codes, Result, Ok, Err, OnOk, IsPermutation, sym, ap, refl, subst}
use Rattle.std.proofs.lemmas.List.{map-append}
use Rattle.std.proofs.lemmas.List.Sorted.{IsPermutation-refl, IsPermutation-trans, IsPermutation-cons, IsPermutation-to_front}
use Rattle.route_table.specs.Paths.{Form, Whole, Around}
use Rattle.number_pools.specs.declared.rows.PoolKind.{PoolKind}
use Rattle.pool_rest.specs.declared.route.Base.{Base}
use Rattle.pool_rest.specs.declared.route.Base.TheVariants.{Ranges, Members}
use Rattle.pool_rest.specs.declared.table.Stem.{Stem}
use Rattle.pool_rest.specs.declared.table.Stem.TheVariants.{Rows, Row, PartOf}
use Rattle.pool_rest.specs.declared.route.RangePart.{RangePart}
use Rattle.pool_rest.specs.declared.route.RangePart.TheVariants.{Free, Given}
use Rattle.pool_rest.specs.Routes.{base_path, part_end}
use Rattle.pool_rest.specs.Stems.{item_of, Lists, stems_of}

more : (stem : Stem) (old new : List (Form × Stem)) (list : List Stem) → Lists old list → IsPermutation (item_of stem ∷ old) new → Lists new (list ++ stem ∷ [])
more stem old new list h p =
    let front : IsPermutation (map item_of list ++ item_of stem ∷ []) (item_of stem ∷ map item_of list) = IsPermutation-to_front (map item_of list) (item_of stem) in
    let both : IsPermutation (map item_of list ++ item_of stem ∷ []) new =
    IsPermutation-trans (map item_of list ++ item_of stem ∷ []) (item_of stem ∷ map item_of list) new front
    (IsPermutation-trans (item_of stem ∷ map item_of list) (item_of stem ∷ old) new (IsPermutation-cons (item_of stem) (map item_of list) old h.items) p) in
    record { items = subst (λ (z : List (Form × Stem)). IsPermutation z new) (sym (map-append item_of list (stem ∷ []))) both }

pub rows_added : {E : Type 0} (base : Base) (front : List ℕ) (old new : List (Form × Stem)) (result : Result (Unit {0}) E) → front ≡ base_path base
    → OnOk result (IsPermutation ((Whole front, Rows base) ∷ old) new) → OnOk result ((list : List Stem) → Lists old list → Lists new (list ++ Rows base ∷ []))
rows_added base front old new (Ok u) a p = λ list h.
    more (Rows base) old new list h (subst (λ (z : List ℕ). IsPermutation ((Whole z, Rows base) ∷ old) new) a p)
rows_added base front old new (Err e) a p = tt

pub row_added : {E : Type 0} (base : Base) (front : List ℕ) (old new : List (Form × Stem)) (result : Result (Unit {0}) E) → front ≡ base_path base
    → OnOk result (IsPermutation ((Around front (codes "/"), Row base) ∷ old) new) → OnOk result ((list : List Stem) → Lists old list → Lists new (list ++ Row base ∷ []))
row_added base front old new (Ok u) a p = λ list h.
    more (Row base) old new list h (subst (λ (z : List ℕ). IsPermutation ((Around z (codes "/"), Row base) ∷ old) new) a p)
row_added base front old new (Err e) a p = tt

pub part_added : {E : Type 0} (part : RangePart) (kind : PoolKind) (front end : List ℕ) (old new : List (Form × Stem)) (result : Result (Unit {0}) E)
    → front ≡ base_path (Ranges kind) → end ≡ part_end part kind → OnOk result (IsPermutation ((Around front end, PartOf part kind) ∷ old) new)
    → OnOk result ((list : List Stem) → Lists old list → Lists new (list ++ PartOf part kind ∷ []))
part_added part kind front end old new (Ok u) a b p = λ list h.
    more (PartOf part kind) old new list h
    (subst (λ (z : List ℕ). IsPermutation ((Around (base_path (Ranges kind)) z, PartOf part kind) ∷ old) new) b
    (subst (λ (z : List ℕ). IsPermutation ((Around z end, PartOf part kind) ∷ old) new) a p))
part_added part kind front end old new (Err e) a b p = tt

-- six stems, one after another
joined : (list : List Stem) (a b c d e f : Stem) → (((((list ++ a ∷ []) ++ b ∷ []) ++ c ∷ []) ++ d ∷ []) ++ e ∷ []) ++ f ∷ [] ≡ list ++ (a ∷ b ∷ c ∷ d ∷ e ∷ f ∷ [])
joined [] a b c d e f = refl
joined (x ∷ xs) a b c d e f = ap (λ (z : List Stem). x ∷ z) (joined xs a b c d e f)

-- this stem comes to the table
abbrev pub Adds : List (Form × Stem) → List (Form × Stem) → List Stem → Type 0
Adds old new more = (list : List Stem) → Lists old list → Lists new (list ++ more)

pub all_added : {E : Type 0} (kind : PoolKind) (a b c d e f g : List (Form × Stem)) (result : Result (Unit {0}) E)
    → Adds a b (Rows (Ranges kind) ∷ []) → Adds b c (Rows (Members kind) ∷ []) → Adds c d (Row (Ranges kind) ∷ []) → Adds d e (Row (Members kind) ∷ [])
    → Adds e f (PartOf Free kind ∷ []) → OnOk result (Adds f g (PartOf Given kind ∷ [])) → OnOk result (Adds a g (stems_of kind))
all_added kind a b c d e f g (Ok u) p q r s t v = λ list h.
    subst (Lists g) (joined list (Rows (Ranges kind)) (Rows (Members kind)) (Row (Ranges kind)) (Row (Members kind)) (PartOf Free kind) (PartOf Given kind))
    (v _ (t _ (s _ (r _ (q _ (p list h))))))
all_added kind a b c d e f g (Err x) p q r s t v = tt

pub none_added : (table : List (Form × Stem)) → table ≡ [] → Lists table []
none_added table e = record { items = subst (λ (z : List (Form × Stem)). IsPermutation [] z) (sym e) (IsPermutation-refl []) }
