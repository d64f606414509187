-- The bytes of a file have one answer: they are one list of records, and each record stands for one row or has one fault.
use Rattle.std.proofs.Common.{◌≡◌, ◌≢◌, ◌⊎◌, inl, inr, ℕ, ◌+◌, ◌<◌, ◌≤◌, Bool, true, false, List, [], ◌∷◌, length, Option, Some, None, Result, Ok, Err, MatchBool, decimal, refl, sym, ap, ◌∙◌, subst, arith, ◌==◌}
use Rattle.std.proofs.lemmas.Fmt.{decimal_injective}
use Rattle.csv.specs.Machine.{Read, next_record}
use Rattle.csv.specs.Reading.{Reached, AreRecords, default_config, strip_bom}
use Rattle.csv.specs.declared.parser.Config.{Config}
use Rattle.csv.specs.declared.parser.State.{State}
use Rattle.csv.specs.declared.parser.State.TheVariants as st
use Rattle.inet_num.specs.Net.{Address, Cidr}
use Rattle.inet_num.proofs.Readings.{reading_is_one}
use Rattle.ipam_data.specs.Hosts.{Masked}
use Rattle.ipam_data.specs.declared.kinds.Kind.{Kind}
use Rattle.ipam_data.specs.declared.kinds.Kind.TheVariants.{Vrfs, Rirs, Roles, Aggregates, Prefixes, Ranges, Addresses}
use Rattle.ipam_data.specs.declared.replies.FieldName.{FieldName}
use Rattle.ipam_data.specs.declared.replies.FieldName.TheVariants.{Column as ColumnField}
use Rattle.ipam_data.specs.declared.replies.RowFault.{RowFault}
use Rattle.ipam_data.specs.declared.replies.RowFault.TheVariants.{Field}
use Rattle.ipam_data.specs.declared.replies.Refusal.{Refusal}
use Rattle.ipam_data.specs.declared.replies.Refusal.TheVariants.{Row}
use Rattle.ipam_data.specs.declared.imports.ImportRow.{ImportRow}
use Rattle.csv_import.specs.Columns.{is_header}
use Rattle.csv_import.specs.Cells.{IsWeightText, IsWeightCell, IsBlockReading, IsHostReading, block_fault}
use Rattle.csv_import.specs.Rows.{IsCellsOf, IsRowOf, role_row, aggregate_row, prefix_row, range_row, address_row}
use Rattle.csv_import.specs.Files.{most_bytes, AreRowsOf, IsTableOf, IsFileOf}
use Rattle.csv_import.specs.Laws.{FileIsOne}

-- ---- records

same_read : (a b : Read) (found : Option Read) → found ≡ Some a → found ≡ Some b → a ≡ b
same_read a b found e f = let same : Some a ≡ Some b = sym e ∙ f in cc

no_read : {A : Type 0} (a : Read) (found : Option Read) → found ≡ None → found ≡ Some a → A
no_read a found e f = absurd (go e f)
  where
    go : found ≡ None → found ≡ Some a → ⊥
    go e f = let no : None ≡ Some a = sym e ∙ f in cc

-- where a reader stops, the next record is none
stopped : (cfg : Config) (s t : State) (xs ys : List ℕ) → s ≡ t → xs ≡ ys → next_record cfg t [] [] ys ≡ None → next_record cfg s [] [] xs ≡ None
stopped cfg s t xs ys a b e = rw (a, b) e

one_reached : (cfg : Config) (s : State) (xs : List ℕ) (rs qs : List (List (List ℕ))) (t u : State) (ys zs : List ℕ)
    → Reached cfg s xs rs t ys → next_record cfg t [] [] ys ≡ None → Reached cfg s xs qs u zs → next_record cfg u [] [] zs ≡ None → rs ≡ qs
unfolding Reached
one_reached cfg s xs [] [] t u ys zs a e b f = refl
one_reached cfg s xs [] (q ∷ qs) t u ys zs a e b f = no_read b.0 (next_record cfg s [] [] xs) (stopped cfg s t xs ys a.0 a.1 e) b.1
one_reached cfg s xs (r ∷ rs) [] t u ys zs a e b f = no_read a.0 (next_record cfg s [] [] xs) (stopped cfg s u xs zs b.0 b.1 f) a.1
one_reached cfg s xs (r ∷ rs) (q ∷ qs) t u ys zs a e b f =
    let same : a.0 ≡ b.0 = same_read a.0 b.0 (next_record cfg s [] [] xs) a.1 b.1 in
    let first : r ≡ q = a.2 ∙ ap (λ (p : Read). p.0) same ∙ sym b.2 in
    let rest : rs ≡ qs = one_reached cfg b.0.1 b.0.2 rs qs t u ys zs (subst (λ (p : Read). Reached cfg p.1 p.2 rs t ys) same a.3) e b.3 f in cc

one_records : (xs : List ℕ) (rs qs : List (List (List ℕ))) → AreRecords default_config st.StartRecord xs rs → AreRecords default_config st.StartRecord xs qs → rs ≡ qs
one_records xs rs qs a b = one_reached default_config st.StartRecord xs rs qs a.0 b.0 a.1 b.1 a.2 a.3 b.2 b.3

-- ---- cells

one_block : (text : List ℕ) (a b : Result Cidr RowFault) → IsBlockReading text a → IsBlockReading text b → a ≡ b
one_block text (Ok a) (Ok b) h k = ap Ok (reading_is_one.blocks text a b h k)
one_block text (Ok a) (Err e) h k = absurd (reading_is_one.apart text a k.0 h k.1)
one_block text (Err e) (Ok b) h k = absurd (reading_is_one.apart text b h.0 k h.1)
one_block text (Err e) (Err f) h k = ap Err (h.2 ∙ ap block_fault (reading_is_one.faults text h.0 k.0 h.1 k.1) ∙ sym k.2)

one_host : (key : FieldName) (text : List ℕ) (a b : Result Masked RowFault) → IsHostReading key text a → IsHostReading key text b → a ≡ b
one_host key text (Ok a) (Ok b) h k =
    let one = reading_is_one.hosts text a.addr b.addr a.len b.len h k in
    ap (λ (x : Address). let host : Masked = record { addr = x; len = a.len } in Ok host) one.0
    ∙ ap (λ (x : ℕ). let host : Masked = record { addr = b.addr; len = x } in Ok host) one.1
one_host key text (Ok a) (Err e) h k = absurd (reading_is_one.host_apart text a.addr a.len k.0.0 h k.0.1)
one_host key text (Err e) (Ok b) h k = absurd (reading_is_one.host_apart text b.addr b.len h.0.0 k h.0.1)
one_host key text (Err e) (Err f) h k = ap Err (h.1 ∙ sym k.1)

one_number : (text : List ℕ) (m n : ℕ) → m ≤ 32767 → n ≤ 32767 → text ≡ decimal m → text ≡ decimal n → m ≡ n
one_number text m n a b h k = decimal_injective m n (omega arith) (omega arith) (sym h ∙ k)

one_weight_text : (text : List ℕ) (a b : Option ℕ) → IsWeightText text a → IsWeightText text b → a ≡ b
one_weight_text text None None h k = refl
one_weight_text text None (Some n) h k = absurd (h n k.1 k.0)
one_weight_text text (Some m) None h k = absurd (k m h.1 h.0)
one_weight_text text (Some m) (Some n) h k = ap Some (one_number text m n h.1 k.1 h.0 k.0)

one_weight : (text : List ℕ) (a b : Option ℕ) → IsWeightCell text a → IsWeightCell text b → a ≡ b
one_weight text a b h k = go (length text == 0) h k
  where
    go : (t : Bool) → MatchBool t (a ≡ Some 1000) (IsWeightText text a) → MatchBool t (b ≡ Some 1000) (IsWeightText text b) → a ≡ b
    go true h k = h ∙ sym k
    go false h k = one_weight_text text a b h k

-- ---- rows

one_cells : (kind : Kind) (header fields : List (List ℕ)) (a b : Result ImportRow RowFault) → IsCellsOf kind header fields a → IsCellsOf kind header fields b → a ≡ b
one_cells Vrfs header fields a b h k = sym h ∙ k
one_cells Rirs header fields a b h k = sym h ∙ k
one_cells Roles header fields a b h k = sym h.2 ∙ ap (λ (weight : Option ℕ). role_row weight header fields) (one_weight _ h.0 k.0 h.1 k.1) ∙ k.2
one_cells Aggregates header fields a b h k = sym h.2 ∙ ap (λ (block : Result Cidr RowFault). aggregate_row block header fields) (one_block _ h.0 k.0 h.1 k.1) ∙ k.2
one_cells Prefixes header fields a b h k = sym h.2 ∙ ap (λ (block : Result Cidr RowFault). prefix_row block header fields) (one_block _ h.0 k.0 h.1 k.1) ∙ k.2
one_cells Ranges header fields a b h k =
    sym h.4 ∙ ap (λ (start : Result Masked RowFault). range_row start h.1 header fields) (one_host _ _ h.0 k.0 h.2 k.2)
    ∙ ap (λ (end : Result Masked RowFault). range_row k.0 end header fields) (one_host _ _ h.1 k.1 h.3 k.3) ∙ k.4
one_cells Addresses header fields a b h k = sym h.2 ∙ ap (λ (host : Result Masked RowFault). address_row host header fields) (one_host _ _ h.0 k.0 h.1 k.1) ∙ k.2

one_row : (kind : Kind) (header fields : List (List ℕ)) (a b : Result ImportRow RowFault) → IsRowOf kind header fields a → IsRowOf kind header fields b → a ≡ b
one_row kind header fields a b (inl h) (inl k) = one_cells kind header fields a b h.1 k.1
one_row kind header fields a b (inl h) (inr k) = absurd (k.0 h.0)
one_row kind header fields a b (inr h) (inl k) = absurd (h.0 k.0)
one_row kind header fields a b (inr h) (inr k) = h.1 ∙ sym k.1

one_rows : (kind : Kind) (header : List (List ℕ)) (n : ℕ) (records : List (List (List ℕ))) (a b : Result (List ImportRow) Refusal)
    → AreRowsOf kind header n records a → AreRowsOf kind header n records b → a ≡ b
one_rows kind header n [] (Ok x) (Ok y) h k = ap Ok (h ∙ sym k)
one_rows kind header n [] (Ok x) (Err e) h k = absurd k
one_rows kind header n [] (Err e) b h k = absurd h
one_rows kind header n (fields ∷ records) (Ok x) (Ok y) h k =
    let row : Ok h.0 ≡ Ok k.0 = one_row kind header fields (Ok h.0) (Ok k.0) h.2 k.2 in
    let rest : Ok h.1 ≡ Ok k.1 = one_rows kind header (n + 1) records (Ok h.1) (Ok k.1) h.3 k.3 in
    let one = h.4 in
    let other = k.4 in cc
one_rows kind header n (fields ∷ records) (Ok x) (Err e) h (inl k) = let no : Ok h.0 ≡ Err k.0 = one_row kind header fields (Ok h.0) (Err k.0) h.2 k.1 in cc
one_rows kind header n (fields ∷ records) (Ok x) (Err e) h (inr k) = let no : Ok h.1 ≡ Err e = one_rows kind header (n + 1) records (Ok h.1) (Err e) h.3 k.2 in cc
one_rows kind header n (fields ∷ records) (Err e) (Ok y) (inl h) k = let no : Err h.0 ≡ Ok k.0 = one_row kind header fields (Err h.0) (Ok k.0) h.1 k.2 in cc
one_rows kind header n (fields ∷ records) (Err e) (Ok y) (inr h) k = let no : Err e ≡ Ok k.1 = one_rows kind header (n + 1) records (Err e) (Ok k.1) h.2 k.3 in cc
one_rows kind header n (fields ∷ records) (Err e) (Err f) (inl h) (inl k) =
    let same : Err h.0 ≡ Err k.0 = one_row kind header fields (Err h.0) (Err k.0) h.1 k.1 in
    let one = h.2 in
    let other = k.2 in cc
one_rows kind header n (fields ∷ records) (Err e) (Err f) (inl h) (inr k) = let no : Err h.0 ≡ Ok k.0 = one_row kind header fields (Err h.0) (Ok k.0) h.1 k.1 in cc
one_rows kind header n (fields ∷ records) (Err e) (Err f) (inr h) (inl k) = let no : Ok h.0 ≡ Err k.0 = one_row kind header fields (Ok h.0) (Err k.0) h.1 k.1 in cc
one_rows kind header n (fields ∷ records) (Err e) (Err f) (inr h) (inr k) = one_rows kind header (n + 1) records (Err e) (Err f) h.2 k.2

-- ---- files

one_table : (kind : Kind) (records : List (List (List ℕ))) (a b : Result (List ImportRow) Refusal) → IsTableOf kind records a → IsTableOf kind records b → a ≡ b
one_table kind [] a b h k = h ∙ sym k
one_table kind (header ∷ records) a b h k = go (is_header kind header) h k
  where
    go : (t : Bool) → MatchBool t (AreRowsOf kind header 1 records a) (a ≡ Err (Row 0 (Field ColumnField))) → MatchBool t (AreRowsOf kind header 1 records b) (b ≡ Err (Row 0 (Field ColumnField))) → a ≡ b
    go true h k = one_rows kind header 1 records a b h k
    go false h k = h ∙ sym k

too_long : (n : ℕ) → most_bytes < n → n ≤ most_bytes → ⊥
too_long n h k = omega arith

pub file_is_one : FileIsOne
file_is_one kind bytes a b (inl h) (inl k) = h.1 ∙ sym k.1
file_is_one kind bytes a b (inl h) (inr k) = absurd (too_long (length bytes) h.0 k.0)
file_is_one kind bytes a b (inr h) (inl k) = absurd (too_long (length bytes) k.0 h.0)
file_is_one kind bytes a b (inr h) (inr k) =
    let same = one_records (strip_bom bytes) h.1 k.1 h.2 k.2 in
    one_table kind k.1 a b (subst (λ (records : List (List (List ℕ))). IsTableOf kind records a) same h.3) k.3
