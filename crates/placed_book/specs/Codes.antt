-- Numbers for what contracts see of a book, made of those of its rows.
use Rattle.std.specs.Prelude.{◌≡◌, ℕ, zero, suc, List, refl}
use Rattle.std.specs.Coded.{Coded, code_by, coded×, coded_ℕ, coded_list}
use Rattle.inet_num.specs.declared.Family.{Family}
use Rattle.inet_num.specs.declared.Family.TheVariants.{V4, V6}
use Rattle.inet_num.specs.Net.{Cidr}
use Rattle.ipam_data.specs.declared.kinds.Table.{Table}
use Rattle.ipam_data.specs.declared.kinds.Table.TheVariants.{Global, Of}
use Rattle.placed_book.specs.Book.{TableBlocks, TabledRows}

abbrev family_number : Family → ℕ
family_number V4 = 4
family_number V6 = 6

abbrev family_of_number : ℕ → Family
family_of_number zero = V6
family_of_number (suc zero) = V6
family_of_number (suc (suc zero)) = V6
family_of_number (suc (suc (suc zero))) = V6
family_of_number (suc (suc (suc (suc zero)))) = V4
family_of_number (suc (suc (suc (suc (suc n))))) = V6

pub family_back : (f : Family) → family_of_number (family_number f) ≡ f
family_back V4 = refl
family_back V6 = refl

abbrev pub family_code : Coded Family
family_code = code_by ℕ coded_ℕ family_number family_of_number family_back

abbrev table_number : Table → ℕ
table_number Global = zero
table_number (Of n) = suc n

abbrev table_of_number : ℕ → Table
table_of_number zero = Global
table_of_number (suc n) = Of n

pub table_back : (t : Table) → table_of_number (table_number t) ≡ t
table_back Global = refl
table_back (Of n) = refl

abbrev pub table_code : Coded Table
table_code = code_by ℕ coded_ℕ table_number table_of_number table_back

abbrev pub block_code : Coded Cidr
block_code =
    code_by (Family × (ℕ × ℕ)) (coded× family_code (coded× coded_ℕ coded_ℕ))
    (λ b. (b.family, (b.first, b.len))) (λ p. record { family = p.0; first = p.1.0; len = p.1.1 }) (λ _. refl)

abbrev pub table_blocks_code : Coded TableBlocks
table_blocks_code =
    code_by (Table × (ℕ × (List Cidr × List Cidr))) (coded× table_code (coded× coded_ℕ (coded× (coded_list block_code) (coded_list block_code))))
    (λ t. (t.table, (t.spare, (t.v4, t.v6)))) (λ p. record { table = p.0; spare = p.1.0; v4 = p.1.1.0; v6 = p.1.1.1 }) (λ _. refl)

-- books are numbered if their rows are
abbrev pub book_code : {T : Type 0} → Coded T → Coded (TabledRows T)
book_code {T} code =
    code_by (List T × (ℕ × (List TableBlocks × TableBlocks))) (coded× (coded_list code) (coded× coded_ℕ (coded× (coded_list table_blocks_code) table_blocks_code)))
    (λ b. (b.rows, (b.spare, (b.tables, b.all)))) (λ p. record { rows = p.0; spare = p.1.0; tables = p.1.1.0; all = p.1.1.1 }) (λ _. refl)
