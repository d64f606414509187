-- Whole paths: a path has one stem and one id.
use Rattle.std.proofs.Common.{◌≡◌, ◌≢◌, ℕ, ◌+◌, ◌^◌, ◌<◌, List, [], ◌∷◌, ◌++◌, length, drop, decimal, codes, Option, Some, None, false, sym, ◌∙◌, ap, subst, arith, refl, append-nil, append_assoc, length-append, ◌==◌, ◌||◌, ◌%◌}
use Rattle.std.proofs.lemmas.Bool.Decides.{nat_tests}
use Rattle.std.specs.List.{list_any}
use Rattle.std.proofs.lemmas.Fmt.{decimal_nonempty, decimal_by_steps}
use Rattle.std.proofs.lemmas.List.Folds.{list_any-append}
use Rattle.route_table.specs.Paths.{IsPiece, IsOfForm}
use Rattle.route_table.proofs.Search.{split_at_slash}
use Rattle.pool_rest.specs.declared.route.Base.{Base}
use Rattle.pool_rest.specs.declared.route.Route.{Route}
use Rattle.pool_rest.specs.declared.route.Route.TheVariants.{Many, Single, Within}
use Rattle.pool_rest.specs.declared.table.Stem.{Stem}
use Rattle.pool_rest.specs.declared.table.Stem.TheVariants.{Rows, Row, PartOf}
use Rattle.pool_rest.specs.Routes.{base_text, base_path, part_text, path_of, IsRoute}
use Rattle.pool_rest.specs.Stems.{stem_of, id_text, form_of}
use Rattle.pool_rest.proofs.Names.{one_base, one_part, base_no_slash, part_no_slash}
use Rattle.pool_rest.proofs.Listed.{base_of}

-- what stands before the id in a path, and what follows
front_is : (j k : Base) (a b : List ℕ) → base_path j ++ a ≡ base_path k ++ b → (j ≡ k) × (a ≡ b)
front_is j k a b e =
    let cut : (base_text j ++ codes "/") ++ a ≡ (base_text k ++ codes "/") ++ b = ap (λ (z : List ℕ). drop 10 z) e in
    let both : base_text j ++ 47 ∷ a ≡ base_text k ++ 47 ∷ b = sym (append_assoc (base_text j) (codes "/") a) ∙ cut ∙ append_assoc (base_text k) (codes "/") b in
    let parts = split_at_slash (base_text j) (base_text k) a b (base_no_slash j) (base_no_slash k) both in
    (one_base j k parts.0, parts.1)

-- what follows the front of a path
abbrev IsTail : Stem → Option (List ℕ) → List ℕ → Type 0
IsTail (Rows base) text rest = (text ≡ None) × (rest ≡ [])
IsTail (Row kind) text rest = (piece : List ℕ) × (text ≡ Some piece) × IsPiece piece × (rest ≡ piece ++ 47 ∷ [])
IsTail (PartOf part kind) text rest = (piece : List ℕ) × (text ≡ Some piece) × IsPiece piece × (rest ≡ piece ++ 47 ∷ (part_text part kind ++ 47 ∷ []))

tail_of : (stem : Stem) (path : List ℕ) (text : Option (List ℕ)) → IsOfForm (form_of stem) path text → (rest : List ℕ) × (path ≡ base_path (base_of stem) ++ rest) × IsTail stem text rest
tail_of (Rows base) path None h = ([], h ∙ sym (append-nil (base_path base)), (refl, refl))
tail_of (Rows base) path (Some piece) h = absurd h
tail_of (Row kind) path None h = absurd h
tail_of (Row kind) path (Some piece) h = (piece ++ 47 ∷ [], h.1, (piece, refl, h.0, refl))
tail_of (PartOf part kind) path None h = absurd h
tail_of (PartOf part kind) path (Some piece) h = (piece ++ 47 ∷ (part_text part kind ++ 47 ∷ []), h.1, (piece, refl, h.0, refl))

not_empty : (a : List ℕ) (x : ℕ) (b rest : List ℕ) → rest ≡ [] → rest ≢ a ++ x ∷ b
not_empty a x b rest e q =
    let n : 0 ≡ length a + length (x ∷ b) = sym (ap length e) ∙ ap length q ∙ length-append a (x ∷ b) in
    absurd (omega arith)

one_tail : (s t : Stem) (a b : Option (List ℕ)) (rest : List ℕ) → base_of s ≡ base_of t → IsTail s a rest → IsTail t b rest → (s ≡ t) × (a ≡ b)
one_tail (Rows j) (Rows k) a b rest e h g = (ap Rows e, h.0 ∙ sym g.0)
one_tail (Rows j) (Row k) a b rest e h g = absurd (not_empty g.0 47 [] rest h.1 g.3)
one_tail (Rows j) (PartOf part kind) a b rest e h g = absurd (not_empty g.0 47 (part_text part kind ++ 47 ∷ []) rest h.1 g.3)
one_tail (Row j) (Rows k) a b rest e h g = absurd (not_empty h.0 47 [] rest g.1 h.3)
one_tail (Row j) (Row k) a b rest e h g =
    let s = split_at_slash h.0 g.0 [] [] h.2.no_slash g.2.no_slash (sym h.3 ∙ g.3) in
    (ap Row e, h.1 ∙ ap Some s.0 ∙ sym g.1)
one_tail (Row j) (PartOf part kind) a b rest e h g =
    let s = split_at_slash h.0 g.0 [] (part_text part kind ++ 47 ∷ []) h.2.no_slash g.2.no_slash (sym h.3 ∙ g.3) in
    absurd (not_empty (part_text part kind) 47 [] [] refl s.1)
one_tail (PartOf part kind) (Rows k) a b rest e h g = absurd (not_empty h.0 47 (part_text part kind ++ 47 ∷ []) rest g.1 h.3)
one_tail (PartOf part kind) (Row k) a b rest e h g =
    let s = split_at_slash h.0 g.0 (part_text part kind ++ 47 ∷ []) [] h.2.no_slash g.2.no_slash (sym h.3 ∙ g.3) in
    absurd (not_empty (part_text part kind) 47 [] [] refl (sym s.1))
one_tail (PartOf p j) (PartOf q k) a b rest e h g =
    let s = split_at_slash h.0 g.0 (part_text p j ++ 47 ∷ []) (part_text q k ++ 47 ∷ []) h.2.no_slash g.2.no_slash (sym h.3 ∙ g.3) in
    let t = split_at_slash (part_text p j) (part_text q k) [] [] (part_no_slash p j) (part_no_slash q k) s.1 in
    (one_part p q j k t.0, h.1 ∙ ap Some s.0 ∙ sym g.1)

-- a path has one stem, and one text of an id
pub one_stem : (s t : Stem) (path : List ℕ) (a b : Option (List ℕ)) → IsOfForm (form_of s) path a → IsOfForm (form_of t) path b → (s ≡ t) × (a ≡ b)
one_stem s t path a b h g =
    let x = tail_of s path a h in
    let y = tail_of t path b g in
    let f = front_is (base_of s) (base_of t) x.0 y.0 (sym x.1 ∙ y.1) in
    one_tail s t a b y.0 f.0 (subst (IsTail s a) f.1 x.2) y.2

-- a decimal is a piece
digit_clear : (n : ℕ) → list_any (λ x. x == 47) ((48 + n) ∷ []) ≡ false
digit_clear n = let e : ((48 + n) == 47) ≡ false = grind (arith, nat_tests) in rw e refl

IsClear : ℕ → List ℕ → Type 0
IsClear n text = list_any (λ x. x == 47) text ≡ false

decimal_clear : (id : ℕ) → id < 2 ^ 64 → list_any (λ x. x == 47) (decimal id) ≡ false
unfolding IsClear
decimal_clear id l =
    decimal_by_steps IsClear (λ n _. digit_clear n)
    (λ n ds _ ih. list_any-append (λ x. x == 47) ds ((48 + n % 10) ∷ []) ∙ ap (λ v. v || list_any (λ x. x == 47) ((48 + n % 10) ∷ [])) ih ∙ digit_clear (n % 10)) id l

pub decimal_piece : (id : ℕ) → id < 2 ^ 32 → IsPiece (decimal id)
decimal_piece id l = record { some = decimal_nonempty id (omega arith); no_slash = decimal_clear id (omega arith) }

-- the path of a route is of its stem's form, and what is of the form is the path
pub of_form : (route : Route) → IsRoute route → IsOfForm (form_of (stem_of route)) (path_of route) (id_text route)
of_form (Many base) h = refl
of_form (Single base id) h = (decimal_piece id h.1, refl)
of_form (Within part kind id) h = (decimal_piece id h.1, refl)

pub is_path : (route : Route) (path : List ℕ) → IsOfForm (form_of (stem_of route)) path (id_text route) → path ≡ path_of route
is_path (Many base) path h = h
is_path (Single base id) path h = h.1
is_path (Within part kind id) path h = h.1
