-- What the table's answer says of a path.
use Rattle.std.proofs.Common.{◌≡◌, ◌≢◌, ℕ, zero, suc, ◌<◌, List, [], ◌∷◌, ◌++◌, length, map, get_or, decimal, codes, Option, Some, None, sym, ◌∙◌, ap, subst, arith, refl, IsUtf8}
use Rattle.std.specs.List.{Contains}
use Rattle.std.proofs.lemmas.List.Sorted.{Contains-permutation, IsPermutation-sym}
use Rattle.std.proofs.lemmas.Fmt.{IsAscii-decimal, decimal_injective}
use Rattle.std.proofs.lemmas.Str.{IsUtf8-append, IsUtf8-from_ascii}
use Rattle.route_table.specs.Paths.{Form, IsOfForm}
use Rattle.route_table.proofs.Texts.{literal_is_text}
use Rattle.number_pools.specs.declared.rows.PoolKind.{PoolKind}
use Rattle.pool_rest.specs.declared.route.Base.{Base}
use Rattle.pool_rest.specs.declared.route.Base.TheVariants.{Ranges}
use Rattle.pool_rest.specs.declared.route.Route.{Route}
use Rattle.pool_rest.specs.declared.route.Route.TheVariants.{Many, Single, Within}
use Rattle.pool_rest.specs.declared.route.RangePart.{RangePart}
use Rattle.pool_rest.specs.declared.table.Stem.{Stem}
use Rattle.pool_rest.specs.declared.table.Stem.TheVariants.{Rows, Row, PartOf}
use Rattle.pool_rest.specs.Routes.{base_text, base_path, part_text, part_end, path_of, IsId, IsRoute, IsPathOf, HasRoute}
use Rattle.pool_rest.specs.Stems.{stem_of, id_text, form_of, item_of, stems, Lists, IsRouteAt}
use Rattle.pool_rest.proofs.Names.{base_literal, part_literal}
use Rattle.pool_rest.proofs.Listed.{listed}
use Rattle.pool_rest.proofs.Paths.{one_stem, of_form, is_path}

-- an item of the table is a stem under its form
item_in : (list : List Stem) (form : Form) (stem : Stem) (n : ℕ) → n < length (map item_of list) → get_or (map item_of list) n (form, stem) ≡ (form, stem)
    → (form ≡ form_of stem) × Contains list stem
item_in [] form stem n l e = absurd (omega arith)
item_in (s ∷ list) form stem zero l e =
    let same : s ≡ stem = ap (λ (z : Form × Stem). z.1) e in
    (sym (ap (λ (z : Form × Stem). z.0) e) ∙ ap form_of same, (0, omega arith, same))
item_in (s ∷ list) form stem (suc n) l e =
    let ih = item_in list form stem n (omega arith) e in
    (ih.0, (suc ih.1.0, omega (arith, ih.1.1), ih.1.2))

in_item : (list : List Stem) (stem : Stem) (n : ℕ) → n < length list → get_or list n stem ≡ stem → Contains (map item_of list) (item_of stem)
in_item [] stem n l e = absurd (omega arith)
in_item (s ∷ list) stem zero l e = (0, omega arith, ap item_of e)
in_item (s ∷ list) stem (suc n) l e =
    let ih = in_item list stem n (omega arith) e in
    (suc ih.0, omega (arith, ih.1), ih.2)

item_listed : (table : List (Form × Stem)) (form : Form) (stem : Stem) → Lists table stems → Contains table (form, stem) → (form ≡ form_of stem) × Contains stems stem
item_listed table form stem h c =
    let d = Contains-permutation table (map item_of stems) (form, stem) (IsPermutation-sym (map item_of stems) table h.items) c in
    item_in stems form stem d.0 d.1 d.2

abbrev text_or_none : Option (List ℕ) → List ℕ
text_or_none None = []
text_or_none (Some text) = text

some_same : (a b : Route) → Some a ≡ Some b → a ≡ b
some_same a b e = ap (route_or a) e
  where
    route_or : Route → Option Route → Route
    route_or r None = r
    route_or r (Some q) = q

-- the route that was made of a text is of the stem, and without one no route of the stem has the text
made : (stem : Stem) (text : Option (List ℕ)) (route : Route) → IsRouteAt stem text (Some route) → (stem_of route ≡ stem) × (id_text route ≡ text) × IsRoute route
made (Rows base) None route r = subst (λ (z : Route). (stem_of z ≡ Rows base) × (id_text z ≡ None) × IsRoute z) (sym (some_same route (Many base) r)) (refl, refl, tt)
made (Rows base) (Some piece) route r = absurd (cc)
made (Row base) None route r = absurd (cc)
made (Row base) (Some piece) route r =
    subst (λ (z : Route). (stem_of z ≡ Row base) × (id_text z ≡ Some piece) × IsRoute z) (sym r.3) (refl, ap Some (sym r.2), r.1)
made (PartOf part kind) None route r = absurd (cc)
made (PartOf part kind) (Some piece) route r =
    subst (λ (z : Route). (stem_of z ≡ PartOf part kind) × (id_text z ≡ Some piece) × IsRoute z) (sym r.3) (refl, ap Some (sym r.2), r.1)

unmade : (stem : Stem) (text : Option (List ℕ)) → IsRouteAt stem text None → (route : Route) → stem_of route ≡ stem → IsRoute route → id_text route ≢ text
unmade (Rows base) None r route s i e = absurd (cc)
unmade (Rows base) (Some piece) r (Many k) s i e = cc
unmade (Rows base) (Some piece) r (Single k id) s i e = cc
unmade (Rows base) (Some piece) r (Within part k id) s i e = cc
unmade (Row base) None r (Many k) s i e = cc
unmade (Row base) None r (Single k id) s i e = cc
unmade (Row base) None r (Within part k id) s i e = cc
unmade (Row base) (Some piece) r (Many k) s i e = cc
unmade (Row base) (Some piece) r (Single k id) s i e = r id i (sym (ap text_or_none e))
unmade (Row base) (Some piece) r (Within part k id) s i e = cc
unmade (PartOf part kind) None r (Many k) s i e = cc
unmade (PartOf part kind) None r (Single k id) s i e = cc
unmade (PartOf part kind) None r (Within p k id) s i e = cc
unmade (PartOf part kind) (Some piece) r (Many k) s i e = cc
unmade (PartOf part kind) (Some piece) r (Single k id) s i e = cc
unmade (PartOf part kind) (Some piece) r (Within p k id) s i e = r id i (sym (ap text_or_none e))

-- the target is text, and the table has a form for it
pub found : (table : List (Form × Stem)) (path : List ℕ) (form : Form) (stem : Stem) (text : Option (List ℕ)) (result : Option Route) → Lists table stems
    → Contains table (form, stem) → IsOfForm form path text → IsRouteAt stem text result → HasRoute path result
found table path form stem text (Some route) h c f r =
    let i = item_listed table form stem h c in
    let s = made stem text route r in
    let g : IsOfForm (form_of stem) path text = subst (λ (z : Form). IsOfForm z path text) i.0 f in
    let mine : IsOfForm (form_of (stem_of route)) path (id_text route) =
    subst (λ (z : Stem). IsOfForm (form_of z) path (id_text route)) (sym s.0) (subst (IsOfForm (form_of stem) path) (sym s.1) g) in
    record { served = s.2; path = is_path route path mine }
found table path form stem text None h c f r = λ route p.
    let i = item_listed table form stem h c in
    let g : IsOfForm (form_of stem) path text = subst (λ (z : Form). IsOfForm z path text) i.0 f in
    let other : IsOfForm (form_of (stem_of route)) path (id_text route) = subst (λ (z : List ℕ). IsOfForm (form_of (stem_of route)) z (id_text route)) (sym p.path) (of_form route p.served) in
    let same = one_stem (stem_of route) stem path (id_text route) text other g in
    unmade stem text r route same.0 p.served same.1

-- the table has none
pub missed : (table : List (Form × Stem)) (path : List ℕ) → Lists table stems
    → ((form : Form) (stem : Stem) (text : Option (List ℕ)) → Contains table (form, stem) → ¬ IsOfForm form path text) → HasRoute path None
missed table path h n = λ route p.
    let l = listed route in
    let i = in_item stems (stem_of route) l.0 l.1 l.2 in
    n (form_of (stem_of route)) (stem_of route) (id_text route)
    (Contains-permutation (map item_of stems) table (item_of (stem_of route)) h.items i)
    (subst (λ (z : List ℕ). IsOfForm (form_of (stem_of route)) z (id_text route)) (sym p.path) (of_form route p.served))

-- the path of a route is text
front_text : (base : Base) → IsUtf8 (base_path base)
front_text base =
    IsUtf8-append (codes "/api/ipam/") (base_text base ++ codes "/") (literal_is_text (codes "/api/ipam/") refl)
    (IsUtf8-append (base_text base) (codes "/") (literal_is_text (base_text base) (base_literal base)) (literal_is_text (codes "/") refl))

id_is_text : (id : ℕ) → IsId id → (rest : List ℕ) → IsUtf8 rest → IsUtf8 (decimal id ++ rest)
id_is_text id h rest u = IsUtf8-append (decimal id) rest (IsUtf8-from_ascii (decimal id) (IsAscii-decimal id (omega (arith, h.1)))) u

end_is_text : (part : RangePart) (kind : PoolKind) → IsUtf8 (part_end part kind)
end_is_text part kind =
    IsUtf8-append (codes "/") (part_text part kind ++ codes "/") (literal_is_text (codes "/") refl)
    (IsUtf8-append (part_text part kind) (codes "/") (literal_is_text (part_text part kind) (part_literal part kind)) (literal_is_text (codes "/") refl))

path_text : (route : Route) → IsRoute route → IsUtf8 (path_of route)
path_text (Many base) h = front_text base
path_text (Single base id) h = IsUtf8-append (base_path base) (decimal id ++ codes "/") (front_text base) (id_is_text id h (codes "/") (literal_is_text (codes "/") refl))
path_text (Within part kind id) h =
    IsUtf8-append (base_path (Ranges kind)) (decimal id ++ part_end part kind) (front_text (Ranges kind)) (id_is_text id h (part_end part kind) (end_is_text part kind))

pub no_text : (target : List ℕ) → ¬ IsUtf8 target → HasRoute target None
no_text target n = λ route p. n (subst IsUtf8 (sym p.path) (path_text route p.served))

-- two routes with one path are one
abbrev with_id : ℕ → Stem → Route
with_id id (Rows base) = Many base
with_id id (Row base) = Single base id
with_id id (PartOf part kind) = Within part kind id

one_id : (a b : Route) → stem_of a ≡ stem_of b → id_text a ≡ id_text b → IsRoute a → IsRoute b → a ≡ b
one_id (Many j) (Many k) s e h g = ap (with_id 0) s
one_id (Many j) (Single k id) s e h g = cc
one_id (Many j) (Within part k id) s e h g = cc
one_id (Single j id) (Many k) s e h g = cc
one_id (Single j id) (Single k other) s e h g =
    ap (with_id id) s ∙ ap (Single k) (decimal_injective id other (omega (arith, h.1)) (omega (arith, g.1)) (ap text_or_none e))
one_id (Single j id) (Within part k other) s e h g = cc
one_id (Within part j id) (Many k) s e h g = cc
one_id (Within part j id) (Single k other) s e h g = cc
one_id (Within part j id) (Within end k other) s e h g =
    ap (with_id id) s ∙ ap (Within end k) (decimal_injective id other (omega (arith, h.1)) (omega (arith, g.1)) (ap text_or_none e))

one_path : (target : List ℕ) (a b : Route) → IsPathOf target a → IsPathOf target b → a ≡ b
one_path target a b h g =
    let s = one_stem (stem_of a) (stem_of b) target (id_text a) (id_text b)
    (subst (λ (z : List ℕ). IsOfForm (form_of (stem_of a)) z (id_text a)) (sym h.path) (of_form a h.served))
    (subst (λ (z : List ℕ). IsOfForm (form_of (stem_of b)) z (id_text b)) (sym g.path) (of_form b g.served)) in
    one_id a b s.0 s.1 h.served g.served

pub one_route : (target : List ℕ) (a b : Option Route) → HasRoute target a → HasRoute target b → a ≡ b
one_route target (Some a) (Some b) h g = ap Some (one_path target a b h g)
one_route target (Some a) None h g = absurd (g a h)
one_route target None (Some b) h g = absurd (h b g)
one_route target None None h g = refl
