-- The passes over stored tables.
use Rattle.std.proofs.Common.{◌≡◌, ℕ, Bool, find, ◌+◌, ◌<◌, List, [], ◌∷◌, ◌++◌, suc, length, get_or, Option, Some, None, map, fold, drop, take, refl, ap, sym, ◌∙◌, subst, add-one}
use Rattle.std.proofs.Math.Seq.{drop-cons, take-suc}
use Rattle.std.proofs.lemmas.List.{take-append-drop}
use Rattle.ipam_data.specs.declared.kinds.Kind.{Kind}
use Rattle.ipam_data.specs.declared.replies.View.{View}
use Rattle.ipam_data.specs.RowList.{Rises}
use Rattle.ipam_data.specs.State.{State}
use Rattle.ipam_data.specs.Updates.{with_view, AreFit}
use Rattle.stored_tables.specs.declared.tables.Row.{Row}
use Rattle.stored_tables.specs.declared.tables.Tables.{Tables}
use Rattle.stored_tables.specs.declared.opening.Breach.{Breach}
use Rattle.stored_tables.specs.Stored.{stored_row, row_place, kinds, stored_version}
use Rattle.stored_tables.specs.Order.{AreTables}
use Rattle.stored_tables.proofs.OpenLaws.{read_fit, accepted_are_opened}
use Rattle.stored_tables.specs.Reading.{IsBare, IsRead}
use Rattle.stored_tables.specs.Opening.{first_breach, AllBare, IsUnread, bare_state, loaded, is_overfull, is_bad_next, AreNextIds, IsAccepted, IsOpening}
use Rattle.register_tables.specs.Held.{Held, state_of}
use Rattle.register_core.specs.Opened.{AreOf, AreRead}

-- the rows that are left have the first breach of all of them, and lead where all lead; they fit
pub record IsFilling (first : State) (all : List View) (held : Held) (rest : List View) : Type 0 where
  pub breach : first_breach (state_of held) rest ≡ first_breach first all
  pub leads : fold with_view (state_of held) rest ≡ fold with_view first all
  pub fits : AreFit (state_of held) rest

-- a list at a place within it
cut_at : (rows : List Row) (i : ℕ) (row : Row) → i < length rows → rows ≡ take i rows ++ get_or rows i row ∷ drop (suc i) rows
cut_at rows i row l = sym (take-append-drop i rows) ∙ ap (λ (rest : List Row). take i rows ++ rest) (drop-cons rows i row l)

take_next : (rows : List Row) (i : ℕ) (row : Row) → i < length rows → take (i + 1) rows ≡ take i rows ++ get_or rows i row ∷ []
take_next rows i row l = rw add-one (take-suc rows i row l)

-- one more row that is read
all_bare_more : (views : List View) (view : View) → AllBare views → IsBare view → AllBare (views ++ view ∷ [])
all_bare_more [] view a b = (b, tt)
all_bare_more (x ∷ xs) view a b = (a.0, all_bare_more xs view a.1 b)

stored_more : (views : List View) (view : View) → map stored_row (views ++ view ∷ []) ≡ map stored_row views ++ stored_row view ∷ []
stored_more [] view = refl
stored_more (x ∷ xs) view = ap (λ (rows : List Row). stored_row x ∷ rows) (stored_more xs view)

-- the views of all rows up to this one with the view of this one
pub one_more : (rows : List Row) (i : ℕ) (row : Row) (views more : List View) (read : Option View) (view : View) → i < length rows → row ≡ get_or rows i row → AreOf (take i rows) views
    → IsRead IsBare stored_row row read → read ≡ Some view → more ≡ views ++ view ∷ [] → AreOf (take (i + 1) rows) more
one_more rows i row views more read view l is a r n m =
    let got : IsRead IsBare stored_row row (Some view) = subst (λ (o : Option View). IsRead IsBare stored_row row o) n r in
    record {
      stored =
          ap (map stored_row) m ∙ stored_more views view ∙ ap (λ (front : List Row). front ++ stored_row view ∷ []) a.stored
          ∙ ap (λ (x : Row). take i rows ++ x ∷ []) (got.1 ∙ is) ∙ sym (take_next rows i row l);
      bare = subst AllBare (sym m) (all_bare_more views view a.bare got.0);
    }

-- no view is that of this row
pub unread_here : (rows : List Row) (i : ℕ) (row : Row) (views : List View) (read : Option View) → i < length rows → row ≡ get_or rows i row → AreOf (take i rows) views → IsRead IsBare stored_row row read → read ≡ None
    → IsUnread rows row.kind row.id
unread_here rows i row views read l is a r n = record {
  front = views;
  row = row;
  rest = drop (suc i) rows;
  split = cut_at rows i row l ∙ ap (λ (front : List Row). front ++ get_or rows i row ∷ drop (suc i) rows) (sym a.stored) ∙ ap (λ (x : Row). map stored_row views ++ x ∷ drop (suc i) rows) (sym is);
  bare = a.bare;
  kind_is = refl;
  id_is = refl;
  none = subst (λ (o : Option View). IsRead IsBare stored_row row o) n r;
}

all_read : (rows : List Row) (views : List View) (unread : Option (Kind × ℕ)) → AreRead rows views unread → unread ≡ None → AreOf rows views
all_read rows views unread r n = subst (λ (o : Option (Kind × ℕ)). AreRead rows views o) n r

-- rows that were read from tables in order fit into the tables in memory without rows
pub fit : (tables : Tables) (g : Bool) (rows : List Row) (nexts : List (Kind × ℕ)) (views : List View) (unread : Option (Kind × ℕ)) (s : State) → AreTables tables → rows ≡ tables.rows
    → AreRead rows views unread → unread ≡ None → s ≡ bare_state nexts g → AreFit s views
fit tables g rows nexts views unread s order same r n e =
    let a = all_read rows views unread r n in
    let rises : Rises row_place 0 (map stored_row views) = subst (λ (xs : List Row). Rises row_place 0 xs) (sym (a.stored ∙ same)) order.rows in
    subst (λ (t : State). AreFit t views) (sym e) (read_fit nexts g views rises a.bare)

-- where no pass finds anything, the tables stand for the state of the rows that were put
pub opened : (tables : Tables) (g : Bool) (rows : List Row) (nexts : List (Kind × ℕ)) (views : List View) (unread : Option (Kind × ℕ)) (over bad : Option Kind) (breach : Option Breach) (before after : State)
    → AreTables tables → rows ≡ tables.rows → nexts ≡ tables.next → tables.version ≡ stored_version
    → AreRead rows views unread → unread ≡ None
    → over ≡ find (is_overfull rows) kinds → over ≡ None
    → before ≡ bare_state nexts g → AreNextIds nexts
    → first_breach before views ≡ breach → breach ≡ None → (breach ≡ None → after ≡ fold with_view before views)
    → bad ≡ find (is_bad_next nexts rows) kinds → bad ≡ None
    → IsOpening tables g after
opened tables g rows nexts views unread over bad breach before after order same told v r un o on e ids b bn f w wn =
    let a = all_read rows views unread r un in
    let ok : IsAccepted tables g views = record {
      rows = record {
        within = record {
          readable = record { version = v; stored = a.stored ∙ same; bare = a.bare };
          few = subst (λ (xs : List Row). find (is_overfull xs) kinds ≡ None) same (sym o ∙ on);
        };
        unbroken = subst (λ (xs : List (Kind × ℕ)). first_breach (bare_state xs g) views ≡ None) told (ap (λ (s : State). first_breach s views) (sym e) ∙ b ∙ bn);
      };
      nexts = subst (λ (xs : List Row). find (is_bad_next tables.next xs) kinds ≡ None) same (subst (λ (xs : List (Kind × ℕ)). find (is_bad_next xs rows) kinds ≡ None) told (sym w ∙ wn));
    } in
    let full : IsOpening tables g (loaded tables.next g views) = accepted_are_opened tables g views order (subst AreNextIds told ids) ok in
    subst (λ (s : State). IsOpening tables g s) (sym (f bn ∙ ap (λ (s : State). fold with_view s views) e ∙ ap (λ (xs : List (Kind × ℕ)). loaded xs g views) told)) full
