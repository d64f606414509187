-- The fault of an address text is Shape, Octet or Group, also where the text is read as a host or block.
use Rattle.std.proofs.Common.{ℕ, ◌==◌, List, [], ◌∷◌, Bool, true, false, cond, sym, subst}
use Rattle.std.specs.List.{list_any, count_by}
use Rattle.inet_num.specs.declared.text.TextFault.{TextFault}
use Rattle.inet_num.specs.declared.text.TextFault.TheVariants.{Octet, Group, Shape, Length, HostBits}
use Rattle.inet_num.specs.Text.{front_of}
use Rattle.inet_num.specs.Fault.{is_colon, is_period, is_dotted, is_bad, is_misshapen, pieces_of, pieces_fault_of, groups_fault_of, quad_fault_of, address_fault_of, IsAddressFault, IsHostFault, IsBlockFault}

-- a fault of an address text, and none of what follows it
abbrev IsOfAddress : TextFault → Type 0
IsOfAddress Shape = Unit {0}
IsOfAddress Octet = Unit {0}
IsOfAddress Group = Unit {0}
IsOfAddress Length = ⊥
IsOfAddress (HostBits b) = ⊥

either : (t : Bool) (x y : TextFault) → IsOfAddress x → IsOfAddress y → IsOfAddress (cond t x y)
either true x y h k = h
either false x y h k = k

of_pieces : (ps : List (List ℕ)) → IsOfAddress (pieces_fault_of ps)
of_pieces [] = tt
of_pieces (p ∷ []) = either (is_dotted p) Octet Group tt tt
of_pieces (p ∷ q ∷ rest) = either (is_bad p) Group (pieces_fault_of (q ∷ rest)) tt (of_pieces (q ∷ rest))

of_address : (text : List ℕ) → IsOfAddress (address_fault_of text)
of_address text =
    either (list_any is_colon text) (groups_fault_of text) (quad_fault_of text)
    (either (is_misshapen text) Shape (pieces_fault_of (pieces_of text)) tt (of_pieces (pieces_of text)))
    (either (count_by is_period text == 3) Octet Shape tt tt)

fault_is : (text : List ℕ) (f : TextFault) → IsAddressFault text f → IsOfAddress f
fault_is text f h = subst IsOfAddress (sym h.is) (of_address text)

pub block_fault : (text : List ℕ) (f : TextFault) → IsAddressFault (front_of text) f → IsBlockFault text f
block_fault text Shape h = h
block_fault text Octet h = h
block_fault text Group h = h
block_fault text Length h = elim (fault_is (front_of text) Length h) [ ]
block_fault text (HostBits b) h = elim (fault_is (front_of text) (HostBits b) h) [ ]

pub host_fault : (text : List ℕ) (f : TextFault) → IsAddressFault (front_of text) f → IsHostFault text f
host_fault text Shape h = h
host_fault text Octet h = h
host_fault text Group h = h
host_fault text Length h = elim (fault_is (front_of text) Length h) [ ]
host_fault text (HostBits b) h = elim (fault_is (front_of text) (HostBits b) h) [ ]
