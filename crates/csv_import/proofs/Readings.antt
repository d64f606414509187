-- How far the rows of a file have been read.
use Rattle.std.proofs.Common.{◌≡◌, ◌⊎◌, inl, inr, ℕ, ◌+◌, List, [], ◌∷◌, ◌++◌, length, Ok, Err, refl, sym, subst, append_assoc, append-nil, arith}
use Rattle.ipam_data.specs.declared.kinds.Kind.{Kind}
use Rattle.ipam_data.specs.declared.imports.ImportRow.{ImportRow}
use Rattle.ipam_data.specs.declared.replies.RowFault.{RowFault}
use Rattle.ipam_data.specs.declared.replies.Refusal.{Refusal}
use Rattle.ipam_data.specs.declared.replies.Refusal.TheVariants.{Row, Memory}
use Rattle.csv_import.specs.declared.stops.Stop.{Stop}
use Rattle.csv_import.specs.declared.stops.Stop.TheVariants.{Fault, Memory as Stopped}
use Rattle.csv_import.specs.Rows.{IsRowOf, OrMemory}
use Rattle.csv_import.specs.Files.{AreRowsOf, refusal_of}

-- these rows were read so far: what the lines that are left give goes on from them
pub record HasReadSo (kind : Kind) (header : List (List ℕ)) (n : ℕ) (all left : List (List (List ℕ))) (rows : List ImportRow) : Type 0 where
  pub goes_on : (more : List ImportRow) → AreRowsOf kind header (n + 1) left (Ok more) → AreRowsOf kind header 1 all (Ok (rows ++ more))
  pub stops : (e : Refusal) → AreRowsOf kind header (n + 1) left (Err e) → AreRowsOf kind header 1 all (Err e)

pub read_none : (kind : Kind) (header : List (List ℕ)) (all : List (List (List ℕ))) → HasReadSo kind header 0 all all []
read_none kind header all = record { goes_on = λ more h. h; stops = λ e h. h }

pub read_more : (kind : Kind) (header : List (List ℕ)) (n : ℕ) (all left : List (List (List ℕ))) (rows : List ImportRow) (fields : List (List ℕ)) (row : ImportRow)
    → HasReadSo kind header n all (fields ∷ left) rows → IsRowOf kind header fields (Ok row) → HasReadSo kind header (n + 1) all left (rows ++ row ∷ [])
read_more kind header n all left rows fields row h is = record {
  goes_on = λ more k. subst (λ (rs : List ImportRow). AreRowsOf kind header 1 all (Ok rs)) (sym (append_assoc rows (row ∷ []) more)) (h.goes_on (row ∷ more) (row, more, is, k, refl));
  stops = λ e k. h.stops e (inr (row, is, k));
}

pub read_stop : (kind : Kind) (header : List (List ℕ)) (n : ℕ) (all left : List (List (List ℕ))) (rows : List ImportRow) (fields : List (List ℕ)) (fault : RowFault)
    → HasReadSo kind header n all (fields ∷ left) rows → IsRowOf kind header fields (Err fault) → AreRowsOf kind header 1 all (Err (Row (n + 1) fault))
read_stop kind header n all left rows fields fault h is = h.stops (Row (n + 1) fault) (inl (fault, is, refl))

pub read_end : (kind : Kind) (header : List (List ℕ)) (n : ℕ) (all : List (List (List ℕ))) (rows : List ImportRow) → HasReadSo kind header n all [] rows → AreRowsOf kind header 1 all (Ok rows)
read_end kind header n all rows h = subst (λ (rs : List ImportRow). AreRowsOf kind header 1 all (Ok rs)) (append-nil rows) (h.goes_on [] refl)

pub nothing_left : {X : Type 0} (l : List X) → length l ≡ 0 → l ≡ []
nothing_left [] h = refl
nothing_left (x ∷ xs) h = absurd (omega arith)

-- what a stop is answered, as the refusal of its row
pub refused_at : (kind : Kind) (header fields : List (List ℕ)) (n : ℕ) (stop : Stop) (r : Refusal) → OrMemory (IsRowOf kind header fields) (Err stop) → r ≡ refusal_of n stop
    → (r ≡ Memory) ⊎ ((fault : RowFault) × IsRowOf kind header fields (Err fault) × (r ≡ Row n fault))
refused_at kind header fields n (Fault fault) r h e = inr (fault, h, e)
refused_at kind header fields n Stopped r h e = inl e
