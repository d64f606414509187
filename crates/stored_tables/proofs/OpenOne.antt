-- Tables are accepted or have one fault.
use Rattle.std.proofs.Common.{◌≡◌, ◌≢◌, ℕ, Bool, List, [], ◌∷◌, ◌++◌, map, Option, Some, None, option_map, find, refl, ap, sym, ◌∙◌, subst}
use Rattle.std.specs.Option.{option_or}
use Rattle.ipam_data.specs.declared.kinds.Kind.{Kind}
use Rattle.ipam_data.specs.declared.replies.Which.TheVariants.{Kind as OfKind}
use Rattle.ipam_data.specs.declared.replies.View.{View}
use Rattle.stored_tables.specs.declared.tables.Row.{Row}
use Rattle.stored_tables.specs.declared.tables.Tables.{Tables}
use Rattle.stored_tables.specs.declared.opening.Breach.{Breach}
use Rattle.stored_tables.specs.declared.opening.OpenFault.{OpenFault}
use Rattle.stored_tables.specs.declared.opening.OpenFault.TheVariants.{Keeper, BadTables, Memory, BadRow, Version, BadNext, Limit}
use Rattle.stored_tables.specs.Stored.{stored_row, kinds, stored_version}
use Rattle.stored_tables.specs.Reading.{IsBare}
use Rattle.stored_tables.specs.Opening.{first_breach, bare_state, most_of, is_overfull, is_bad_next, AllBare, IsUnread, IsReadable, IsAccepted, IsRefused, IsOfTables, OpeningIsOne}
use Rattle.stored_tables.proofs.ReadBack.{one_row}

-- ---- rows are read in one way

heads : (a b : Row) (xs ys : List Row) → a ∷ xs ≡ b ∷ ys → (a ≡ b) × (xs ≡ ys)
heads a b xs ys e = (cc, cc)

same_views : (a b : List View) → AllBare a → AllBare b → map stored_row a ≡ map stored_row b → a ≡ b
same_views [] [] h k e = refl
same_views [] (y ∷ ys) h k e = cc
same_views (x ∷ xs) [] h k e = cc
same_views (x ∷ xs) (y ∷ ys) h k e =
    let p = heads (stored_row x) (stored_row y) (map stored_row xs) (map stored_row ys) e in
    let one : x ≡ y = one_row x y h.0 k.0 p.0 in
    ap (λ (v : View). v ∷ xs) one ∙ ap (λ (vs : List View). y ∷ vs) (same_views xs ys h.1 k.1 p.1)

views_one : (tables : Tables) (one other : List View) → IsReadable tables one → IsReadable tables other → one ≡ other
views_one tables one other h k = same_views one other h.bare k.bare (h.stored ∙ sym k.stored)

-- a row that is that of no view does not stand among rows of views
all_read : (views front : List View) (row : Row) (rest : List Row) → AllBare views → ((view : View) → IsBare view → stored_row view ≢ row) → map stored_row views ≡ map stored_row front ++ row ∷ rest → ⊥
all_read [] [] row rest h none e = cc
all_read [] (y ∷ ys) row rest h none e = cc
all_read (x ∷ xs) [] row rest h none e = none x h.0 (heads (stored_row x) row (map stored_row xs) rest e).0
all_read (x ∷ xs) (y ∷ ys) row rest h none e = all_read xs ys row rest h.1 none (heads (stored_row x) (stored_row y) (map stored_row xs) (map stored_row ys ++ row ∷ rest) e).1

unread_apart : (tables : Tables) (views : List View) (kind : Kind) (id : ℕ) → IsReadable tables views → IsUnread tables.rows kind id → ⊥
unread_apart tables views kind id h u = all_read views u.front u.row u.rest h.bare u.none (h.stored ∙ u.split)

-- the first such row is one
first_unread : (one other : List View) (a b : Row) (xs ys : List Row) → AllBare one → AllBare other → ((view : View) → IsBare view → stored_row view ≢ a) → ((view : View) → IsBare view → stored_row view ≢ b)
    → map stored_row one ++ a ∷ xs ≡ map stored_row other ++ b ∷ ys → a ≡ b
first_unread [] [] a b xs ys h k p q e = (heads a b xs ys e).0
first_unread [] (y ∷ ys) a b xs zs h k p q e = absurd (p y k.0 (sym (heads a (stored_row y) xs (map stored_row ys ++ b ∷ zs) e).0))
first_unread (x ∷ xs) [] a b ws ys h k p q e = absurd (q x h.0 (heads (stored_row x) b (map stored_row xs ++ a ∷ ws) ys e).0)
first_unread (x ∷ xs) (y ∷ ys) a b ws zs h k p q e = first_unread xs ys a b ws zs h.1 k.1 p q (heads (stored_row x) (stored_row y) (map stored_row xs ++ a ∷ ws) (map stored_row ys ++ b ∷ zs) e).1

-- ---- what the passes past the rows find

abbrev pub found_in : Tables → Option Kind → Option Breach → Option Kind → Option OpenFault
found_in tables over breach next =
    option_or (option_map (λ kind. Limit (OfKind kind) (most_of kind)) over)
    (option_or (option_map (λ breach. BadTables breach.kind breach.id breach.rule) breach) (option_map BadNext next))

-- the first fault of tables whose rows are read
abbrev pub fault_of : Tables → List View → Option Breach → Option OpenFault
fault_of tables views breach = found_in tables (find (is_overfull tables.rows) kinds) breach (find (is_bad_next tables.next tables.rows) kinds)

-- where a fault is found
data Place (tables : Tables) (global_unique : Bool) (fault : OpenFault) : Type 0 where
  in_version : tables.version ≢ stored_version → fault ≡ Version tables.version → Place tables global_unique fault
  in_row : tables.version ≡ stored_version → (kind : Kind) → (id : ℕ) → IsUnread tables.rows kind id → fault ≡ BadRow kind id → Place tables global_unique fault
  in_state : (views : List View) → IsReadable tables views → fault_of tables views (first_breach (bare_state tables.next global_unique) views) ≡ Some fault → Place tables global_unique fault

-- ---- each refusal has its place

module _ (tables : Tables) (g : Bool) where
  place_of : (fault : OpenFault) → IsOfTables fault → IsRefused tables g fault → Place tables g fault
  place_of Keeper t h = absurd t
  place_of Memory t h = absurd t
  place_of (Version version) t h = in_version (λ e. h.1 (sym h.0 ∙ e)) (ap Version (sym h.0))
  place_of (BadRow kind id) t h = in_row h.0 kind id h.1 refl
  place_of (Limit which most) t h =
      let o = h.2 in
      in_state h.0 h.1 (rw (o.found, o.which_is, o.most_is) refl)
  place_of (BadTables kind id rule) t h = in_state h.0 h.1.readable (rw (h.1.few, h.2) refl)
  place_of (BadNext kind) t h = in_state h.0 h.1.within.readable (rw (h.1.within.few, h.1.unbroken, h.2) refl)

  one_place : (a b : OpenFault) → Place tables g a → Place tables g b → a ≡ b
  one_place a b (in_version n e) (in_version m f) = e ∙ sym f
  one_place a b (in_version n e) (in_row v kind id u f) = absurd (n v)
  one_place a b (in_version n e) (in_state views r f) = absurd (n r.version)
  one_place a b (in_row v kind id u e) (in_version n f) = absurd (n v)
  one_place a b (in_row v kind id u e) (in_row w k i t f) =
      let same = first_unread u.front t.front u.row t.row u.rest t.rest u.bare t.bare u.none t.none (sym u.split ∙ t.split) in
      e ∙ ap (λ (x : Kind). BadRow x id) (sym u.kind_is ∙ ap (λ (r : Row). r.kind) same ∙ t.kind_is)
      ∙ ap (λ (x : ℕ). BadRow k x) (sym u.id_is ∙ ap (λ (r : Row). r.id) same ∙ t.id_is) ∙ sym f
  one_place a b (in_row v kind id u e) (in_state views r f) = absurd (unread_apart tables views kind id r u)
  one_place a b (in_state views r e) (in_version n f) = absurd (n r.version)
  one_place a b (in_state views r e) (in_row v kind id u f) = absurd (unread_apart tables views kind id r u)
  one_place a b (in_state views r e) (in_state others t f) =
      let same = views_one tables views others r t in
      let moved : fault_of tables others (first_breach (bare_state tables.next g) others) ≡ Some a =
      subst (λ (vs : List View). fault_of tables vs (first_breach (bare_state tables.next g) vs) ≡ Some a) same e in
      let both : Some a ≡ Some b = sym moved ∙ f in cc

  no_place : (views : List View) (fault : OpenFault) → IsAccepted tables g views → Place tables g fault → ⊥
  no_place views fault ok (in_version n e) = n ok.rows.within.readable.version
  no_place views fault ok (in_row v kind id u e) = unread_apart tables views kind id ok.rows.within.readable u
  no_place views fault ok (in_state others t f) =
      let same = views_one tables others views t ok.rows.within.readable in
      let moved : fault_of tables views (first_breach (bare_state tables.next g) views) ≡ Some fault =
      subst (λ (vs : List View). fault_of tables vs (first_breach (bare_state tables.next g) vs) ≡ Some fault) same f in
      let none : fault_of tables views (first_breach (bare_state tables.next g) views) ≡ None = rw (ok.rows.within.few, ok.rows.unbroken, ok.nexts) refl in
      let both : Some fault ≡ None = sym moved ∙ none in cc

pub opening_is_one : OpeningIsOne
opening_is_one = record {
  views = views_one;
  faults = λ tables g one other a b h k. one_place tables g one other (place_of tables g one a h) (place_of tables g other b k);
  apart = λ tables g views fault t ok h. no_place tables g views fault ok (place_of tables g fault t h);
}
