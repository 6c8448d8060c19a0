-- The coefficient tables of the Rust, by their bit patterns. Digits.antt shows that each entry is the nearest double to the digits of the Rust.
-- A name is the Rust's. Where two files have different tables of one name, the second is marked: C2-BH and C2-WCA, CU-WCA and CU-WCA-UVB3.
use Rattle.std.specs.Prelude.{ℕ, List, [], ◌∷◌, slice_index_or, Float}
use Rattle.std.specs.Float.{nan}
use Rattle.arithmetic.specs.Constants.{bits}

-- an array of arrays as the function that the formulas take
abbrev pub table : List (List Float) → ℕ → ℕ → Float
table rows i j = slice_index_or (slice_index_or rows i []) j nan

-- ---- uvtheory/parameters.rs
abbrev pub cd_bh : List (List Float)
cd_bh =
    (bits 0x0000000000000000 ∷ bits 0x3F8665A32EBDACFF ∷ bits 0x0000000000000000 ∷ []) ∷
    (bits 0xBFC9B705924E19A2 ∷ bits 0xBF8A06629510BB59 ∷ bits 0x0000000000000000 ∷ []) ∷
    (bits 0x3F8CC22E7D9DEB7C ∷ bits 0x3FB2D719EDA53A4E ∷ bits 0x3F8A4F364577519D ∷ []) ∷
    (bits 0x3F6E6F7D05530CC9 ∷ bits 0x3F74B3580784863F ∷ bits 0x3FA923ADB9D7A359 ∷ []) ∷
    []

abbrev pub CD_BH : ℕ → ℕ → Float
CD_BH = table cd_bh

-- ---- uvtheory/eos/bh/hard_sphere.rs
abbrev pub bh_constants_eta_b : List (List Float)
bh_constants_eta_b =
    (bits 0xBFEEBFDAD8420FB4 ∷ bits 0xBFED79A15A696936 ∷ []) ∷
    (bits 0xBFE184DBA730301F ∷ bits 0xC00C1069AE221A65 ∷ []) ∷
    (bits 0xC00207AE2D71CA95 ∷ bits 0x400CA637EDE0A149 ∷ []) ∷
    []

abbrev pub BH_CONSTANTS_ETA_B : ℕ → ℕ → Float
BH_CONSTANTS_ETA_B = table bh_constants_eta_b

abbrev pub bh_constants_eta_a : List (List Float)
bh_constants_eta_a =
    (bits 0xBFF37A8A8B3C6742 ∷ bits 0x401B051B76F64DF2 ∷ bits 0xBFE2F11CAB04C6A6 ∷ bits 0xC03CFF483D5B802E ∷ []) ∷
    (bits 0x3FF945D4EFB0FD63 ∷ bits 0xC03AF054D066E034 ∷ bits 0x3FD997D2B0A2B0D6 ∷ bits 0x405ABC74C3207BA1 ∷ []) ∷
    (bits 0xBFFFE76298593051 ∷ bits 0x40460F2F6258BAAC ∷ bits 0xC0440DF8FD57592D ∷ bits 0xC03D9CF3201DACB9 ∷ []) ∷
    (bits 0x0000000000000000 ∷ bits 0x0000000000000000 ∷ bits 0x0000000000000000 ∷ bits 0x0000000000000000 ∷ []) ∷
    []

abbrev pub BH_CONSTANTS_ETA_A : ℕ → ℕ → Float
BH_CONSTANTS_ETA_A = table bh_constants_eta_a

-- ---- uvtheory/eos/bh/attractive_perturbation.rs
abbrev pub c_bh : List (List Float)
c_bh =
    (bits 0x3FC5A0B5E5EDDBFA ∷ bits 0xBFEFBABE4C36B897 ∷ bits 0x3FE7C7D21C3EBAAE ∷ bits 0xC0114B4284AABE9B ∷ []) ∷
    (bits 0xBFE10B4A378D2483 ∷ bits 0x4005487AA02D0085 ∷ bits 0xBFFF36142362A67D ∷ bits 0xBF21FC52A2DF34F8 ∷ []) ∷
    []

abbrev pub C_BH : ℕ → ℕ → Float
C_BH = table c_bh

abbrev pub cu_bh : List (List Float)
cu_bh =
    (bits 0x3FE719A415F45E0B ∷ bits 0x0000000000000000 ∷ []) ∷
    (bits 0xBF7880CA95BAE7C8 ∷ bits 0x4003BDA5119CE076 ∷ []) ∷
    (bits 0x400255CFAACD9E84 ∷ bits 0x402DF26E978D4FDF ∷ []) ∷
    (bits 0x4014A8A71DE69AD4 ∷ bits 0x400336AE7D566CF4 ∷ []) ∷
    []

abbrev pub CU_BH : ℕ → ℕ → Float
CU_BH = table cu_bh

abbrev pub c2_bh : List (List Float)
c2_bh =
    (bits 0x3F58AA3AEF55B92C ∷ bits 0x3FA3FD64A27425DC ∷ []) ∷
    (bits 0x3F353190700AEB0D ∷ bits 0x3F8A85FA388DFA87 ∷ []) ∷
    (bits 0x3F0B907D68FBAA70 ∷ bits 0x3F4142AF4FD162E0 ∷ []) ∷
    []

abbrev pub C2_BH : ℕ → ℕ → Float
C2_BH = table c2_bh

-- ---- uvtheory/eos/wca/hard_sphere.rs
abbrev pub wca_constants_q : List (List Float)
wca_constants_q =
    (bits 0x3FFEDABDC76EB8B4 ∷ bits 0x3FDC5CD47DCA4E87 ∷ bits 0x0000000000000000 ∷ bits 0x0000000000000000 ∷ []) ∷
    (bits 0x3FE0A4D468E986B2 ∷ bits 0x3FC75D096EC740D1 ∷ bits 0x3F8697F1D625C6A9 ∷ bits 0xBF14EA0A01DDCAF9 ∷ []) ∷
    (bits 0x0000000000000000 ∷ bits 0x3F8A99B90E1ABD17 ∷ bits 0x3F7A41CA4D901070 ∷ bits 0x3EF37D5284DF7EA5 ∷ []) ∷
    []

abbrev pub WCA_CONSTANTS_Q : ℕ → ℕ → Float
WCA_CONSTANTS_Q = table wca_constants_q

abbrev pub wca_constants_eta_a : List (List Float)
wca_constants_eta_a =
    (bits 0xBFEC6EB1164091C9 ∷ bits 0x3FD0F9276A0D761B ∷ bits 0xBFEB41F8F9AF0BA4 ∷ bits 0xBFF615B9C32FC00C ∷ []) ∷
    (bits 0xBFD950AA473BD3C1 ∷ bits 0xBFE40B74F1D5AC00 ∷ bits 0xBFF7BEB4F482B81A ∷ bits 0xC00854696A381353 ∷ []) ∷
    (bits 0xC0073EE9ED32E29A ∷ bits 0xBFFC75F5EC670229 ∷ bits 0xBFF8E8C37FA4AE7E ∷ bits 0xC0113B7AB9A6F79D ∷ []) ∷
    (bits 0x3FDB7745FDF74D65 ∷ bits 0x4034C4102856B645 ∷ bits 0x4022AEB8689A50D7 ∷ bits 0xC040E4D3FD695DF9 ∷ []) ∷
    []

abbrev pub WCA_CONSTANTS_ETA_A : ℕ → ℕ → Float
WCA_CONSTANTS_ETA_A = table wca_constants_eta_a

abbrev pub wca_constants_eta_b : List (List Float)
wca_constants_eta_b =
    (bits 0xBFEC42B610A64908 ∷ bits 0xBFE3C7EF8A5E5FA9 ∷ []) ∷
    (bits 0xBFE2E093DC156A20 ∷ bits 0xC0081F4310C33E25 ∷ []) ∷
    (bits 0xC001376424B17F02 ∷ bits 0x4012D0C305EBD5BB ∷ []) ∷
    []

abbrev pub WCA_CONSTANTS_ETA_B : ℕ → ℕ → Float
WCA_CONSTANTS_ETA_B = table wca_constants_eta_b

abbrev pub wca_constants_eta_a_uvb3 : List (List Float)
wca_constants_eta_a_uvb3 =
    (bits 0x40051F9AE8233F75 ∷ bits 0xBFF37EBD24B91CED ∷ bits 0xC036E869C43EDEB8 ∷ bits 0x3FEEDBD34536EBCF ∷ []) ∷
    (bits 0xC030C1A602889B70 ∷ bits 0x403ED6DC36F80EC5 ∷ bits 0x4052459357F68C0E ∷ bits 0xC064D276EA980ED5 ∷ []) ∷
    (bits 0x4033881D98ED2156 ∷ bits 0xC056384AA7A3C872 ∷ bits 0xC05320E3470CAEE5 ∷ bits 0x407BBB07E513EB6F ∷ []) ∷
    (bits 0xC00E382216D6304E ∷ bits 0x4054C3012792961A ∷ bits 0x4035A001C8820F64 ∷ bits 0xC0730DD43EB115B7 ∷ []) ∷
    []

abbrev pub WCA_CONSTANTS_ETA_A_UVB3 : ℕ → ℕ → Float
WCA_CONSTANTS_ETA_A_UVB3 = table wca_constants_eta_a_uvb3

abbrev pub wca_constants_eta_b_uvb3 : List (List Float)
wca_constants_eta_b_uvb3 =
    (bits 0x400195F235112ED1 ∷ bits 0xC0347336CB4334DE ∷ []) ∷
    (bits 0xC02AF0E646C662FB ∷ bits 0x404C541906CCA2DB ∷ []) ∷
    (bits 0x4029CD691FD430C4 ∷ bits 0xC0455BC04D0CA327 ∷ []) ∷
    []

abbrev pub WCA_CONSTANTS_ETA_B_UVB3 : ℕ → ℕ → Float
WCA_CONSTANTS_ETA_B_UVB3 = table wca_constants_eta_b_uvb3

-- ---- uvtheory/eos/wca/attractive_perturbation.rs
abbrev pub c_wca : List (List Float)
c_wca =
    (bits 0xBFD0C8811F169F12 ∷ bits 0x3FE5131A049D7A78 ∷ bits 0x40162090C3969F12 ∷ bits 0x3FE61668B751FAEF ∷ bits 0xC00D75CC8E276462 ∷ bits 0xBFFB9F031DE77D9A ∷ []) ∷
    (bits 0xBFC84F6F674998D9 ∷ bits 0xBFE1C6D2F5F3C713 ∷ bits 0x402245B420D88D81 ∷ bits 0x3FE97DDFED530EA2 ∷ bits 0xC01890B164DEC946 ∷ bits 0x4013D2450BCC06C1 ∷ []) ∷
    (bits 0x3FBDF24FEF92B0AD ∷ bits 0xBFCC6006A3BBBA09 ∷ bits 0xC000606EB5A4C3ED ∷ bits 0xBFD7F3522C0820D5 ∷ bits 0x3FEE9E725AE2E5EE ∷ bits 0x402447C5A16B675B ∷ []) ∷
    (bits 0x3FE2BA7C2280D783 ∷ bits 0x4000A2EC2D577F82 ∷ bits 0x403312390C1AEB69 ∷ bits 0xC002B90E616CAC7C ∷ bits 0x4004AAACA9DB74F5 ∷ bits 0x407B062C8356E20F ∷ []) ∷
    (bits 0xBFE37833F9980C1A ∷ bits 0xC01CF34E52185CB5 ∷ bits 0x40330A9233A4C142 ∷ bits 0x4009E943B23322D5 ∷ bits 0x4052DC6EAEF39C3A ∷ bits 0xC0826311D71B649D ∷ []) ∷
    (bits 0x3FAA3B2E5978A4FF ∷ bits 0x401AAACC23D02BE1 ∷ bits 0x40478E35138B8CB6 ∷ bits 0xBFE0091D3FAD9F48 ∷ bits 0xC0417227C205436D ∷ bits 0x4067B1987B8CBACF ∷ []) ∷
    []

abbrev pub C_WCA : ℕ → ℕ → Float
C_WCA = table c_wca

abbrev pub cu_wca : List Float
cu_wca =
    bits 0x3FF71205BC01A36E ∷
    bits 0x3FF1DED288CE703B ∷
    bits 0x4030E189374BC6A8 ∷
    []

abbrev pub CU_WCA : ℕ → Float
CU_WCA i = slice_index_or cu_wca i nan

abbrev pub c2_wca : List (List Float)
c2_wca =
    (bits 0x3F57E3837D5CF8FB ∷ bits 0x3FA25192D3E91F5C ∷ []) ∷
    (bits 0x3F207F78C4F17DEA ∷ bits 0x3F5D79185BA9D7E4 ∷ []) ∷
    (bits 0x0000000000000000 ∷ bits 0x0000000000000000 ∷ []) ∷
    []

abbrev pub C2_WCA : ℕ → ℕ → Float
C2_WCA = table c2_wca

-- ---- uvtheory/eos/wca/attractive_perturbation_uvb3.rs
abbrev pub c_b2_rsap : List (List Float)
c_b2_rsap =
    (bits 0xBFB044E0AB622A28 ∷ bits 0x4018D3CB32EEBFBC ∷ bits 0xC042BAA96D36BA26 ∷ bits 0x40445D3F69F84145 ∷ []) ∷
    (bits 0x3FF84E0AF288845A ∷ bits 0x402A4CBF39914639 ∷ bits 0x40555670035DAD85 ∷ bits 0x4077630CD855970B ∷ []) ∷
    (bits 0x3FE630CB194372F1 ∷ bits 0x4022EB7E10D20A4E ∷ bits 0xC04AA5198C6E0CF9 ∷ bits 0x4073BD1E58453B73 ∷ []) ∷
    (bits 0x3F7EB08E6C83A5AB ∷ bits 0x3FE17A3BF62560B8 ∷ bits 0x401FEB1273A00ACD ∷ bits 0xC05DE7357C4E2F38 ∷ []) ∷
    []

abbrev pub C_B2_RSAP : ℕ → ℕ → Float
C_B2_RSAP = table c_b2_rsap

abbrev pub k_lj_b3 : List Float
k_lj_b3 =
    bits 0xC00FD844D013A92A ∷
    bits 0x4053E428F5C28F5C ∷
    bits 0x3FE19096BB98C7E3 ∷
    bits 0x401573EAB367A0F9 ∷
    bits 0x3FF6CAC083126E98 ∷
    bits 0x404CA5604189374C ∷
    bits 0x0000000000000000 ∷
    bits 0x3FF00CB295E9E1B1 ∷
    bits 0xC043E0A3D70A3D71 ∷
    bits 0xC0544DA1CAC08312 ∷
    bits 0x3FE65BC01A36E2EB ∷
    bits 0x403E27EF9DB22D0E ∷
    bits 0xC037B126E978D4FE ∷
    bits 0xC05540624DD2F1AA ∷
    bits 0x3FE8D6A161E4F766 ∷
    bits 0x4029989374BC6A7F ∷
    []

abbrev pub K_LJ_B3 : ℕ → Float
K_LJ_B3 i = slice_index_or k_lj_b3 i nan

abbrev pub p_b3 : List Float
p_b3 =
    bits 0x3FE9DEBD9018E758 ∷
    bits 0xBFB86CCA2DB61BB0 ∷
    bits 0x3FDE6A7EF9DB22D1 ∷
    bits 0xC006A9A2C669057D ∷
    []

abbrev pub P_B3 : ℕ → Float
P_B3 i = slice_index_or p_b3 i nan

abbrev pub l_b3 : List Float
l_b3 =
    bits 0x4013CB4395810625 ∷
    bits 0xC0354CCCCCCCCCCD ∷
    bits 0x401C000000000000 ∷
    bits 0x4009BAC710CB295F ∷
    []

abbrev pub L_B3 : ℕ → Float
L_B3 i = slice_index_or l_b3 i nan

abbrev pub m_b3 : List Float
m_b3 =
    bits 0x3FBE57FB69984A0E ∷
    bits 0x3FB41C3EFAE7924B ∷
    bits 0xBFE19CCB7D41743F ∷
    bits 0x3F82C40D0AAA7DED ∷
    []

abbrev pub M_B3 : ℕ → Float
M_B3 i = slice_index_or m_b3 i nan

abbrev pub cu_wca_uvb3 : List Float
cu_wca_uvb3 =
    bits 0x403A74395810624E ∷
    bits 0x3FFCDF3B645A1CAC ∷
    bits 0x3FFCCB923A29C77A ∷
    bits 0x40643EB851EB851F ∷
    bits 0x402735C28F5C28F6 ∷
    bits 0x4028000000000000 ∷
    bits 0x3FD999999999999A ∷
    bits 0x4000000000000000 ∷
    []

abbrev pub CU_WCA_UVB3 : ℕ → Float
CU_WCA_UVB3 i = slice_index_or cu_wca_uvb3 i nan
