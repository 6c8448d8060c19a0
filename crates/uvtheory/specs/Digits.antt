-- Each coefficient of Tables.antt is the nearest double to the digits that the Rust has: by computation, over whole tables.
use Rattle.std.specs.Prelude.{◌≡◌, ℕ, ◌^◌, true, false, [], ◌∷◌, refl, Float}
use Rattle.std.specs.Float.{binary64}
use Rattle.std.specs.Float.Ieee.{round, of_bits}
use Rattle.uvtheory.specs.Tables as T

-- digits / 10 ^ places, above zero and below
abbrev plus : ℕ → ℕ → Float
plus digits places = round binary64 false digits (10 ^ places)

abbrev minus : ℕ → ℕ → Float
minus digits places = round binary64 true digits (10 ^ places)

-- ---- uvtheory/parameters.rs
cd_bh_digits : T.cd_bh
    ≡ (plus 0 1 ∷ plus 109360455168912 16 ∷ plus 0 1 ∷ []) ∷
    (minus 200897880971934 15 ∷ minus 127074910870683 16 ∷ plus 0 1 ∷ []) ∷
    (plus 140422470174053 16 ∷ plus 735946850956932 16 ∷ plus 128463973950737 16 ∷ []) ∷
    (plus 371527116894441 17 ∷ plus 505384813757953 17 ∷ plus 491003312452622 16 ∷ []) ∷
    []
unfolding round of_bits
cd_bh_digits = refl

-- ---- uvtheory/eos/bh/hard_sphere.rs
bh_constants_eta_b_digits : T.bh_constants_eta_b
    ≡ (minus 960919783 9 ∷ minus 921097447 9 ∷ []) ∷
    (minus 547468020 9 ∷ minus 3508014069 9 ∷ []) ∷
    (minus 2253750186 9 ∷ plus 3581161364 9 ∷ []) ∷
    []
unfolding round of_bits
bh_constants_eta_b_digits = refl

bh_constants_eta_a_digits : T.bh_constants_eta_a
    ≡ (minus 1217417282 9 ∷ plus 6754987582 9 ∷ minus 5919326153 10 ∷ minus 2899719604 8 ∷ []) ∷
    (plus 1579548775 9 ∷ minus 2693879416 8 ∷ plus 3998915410 10 ∷ plus 1069446266 7 ∷ []) ∷
    (minus 1993990512 9 ∷ plus 4411863355 8 ∷ minus 4010916106 8 ∷ minus 296130848 7 ∷ []) ∷
    (plus 0 1 ∷ plus 0 1 ∷ plus 0 1 ∷ plus 0 1 ∷ []) ∷
    []
unfolding round of_bits
bh_constants_eta_a_digits = refl

-- ---- uvtheory/eos/bh/attractive_perturbation.rs
c_bh_digits : T.c_bh
    ≡ (plus 168966996450507 15 ∷ minus 991545819144238 15 ∷ plus 743142180601202 15 ∷ minus 432349593441145 14 ∷ []) ∷
    (minus 532628162859638 15 ∷ plus 266039013993583 14 ∷ minus 195070279905704 14 ∷ minus 137219512394905 18 ∷ []) ∷
    []
unfolding round of_bits
c_bh_digits = refl

cu_bh_digits : T.cu_bh
    ≡ (plus 72188 5 ∷ plus 0 1 ∷ []) ∷
    (minus 59822 7 ∷ plus 24676 4 ∷ []) ∷
    (plus 22919 4 ∷ plus 149735 4 ∷ []) ∷
    (plus 51647 4 ∷ plus 24017 4 ∷ []) ∷
    []
unfolding round of_bits
cu_bh_digits = refl

c2_bh_digits : T.c2_bh
    ≡ (plus 150542979585173 17 ∷ plus 390426109607451 16 ∷ []) ∷
    (plus 323388827421376 18 ∷ plus 129508541592689 16 ∷ []) ∷
    (plus 525749466058948 19 ∷ plus 526748277148572 18 ∷ []) ∷
    []
unfolding round of_bits
c2_bh_digits = refl

-- ---- uvtheory/eos/wca/hard_sphere.rs
wca_constants_q_digits : T.wca_constants_q
    ≡ (plus 192840364363978 14 ∷ plus 443165896265079 15 ∷ plus 0 1 ∷ plus 0 1 ∷ []) ∷
    (plus 520120816141761 15 ∷ plus 182526759234412 15 ∷ plus 110319989659929 16 ∷ minus 797813995328348 19 ∷ []) ∷
    (plus 0 1 ∷ plus 129885156087242 16 ∷ plus 641039871789327 17 ∷ plus 185866741090323 19 ∷ []) ∷
    []
unfolding round of_bits
wca_constants_q_digits = refl

wca_constants_eta_a_digits : T.wca_constants_eta_a
    ≡ (minus 888512176 9 ∷ plus 265207151 9 ∷ minus 851803291 9 ∷ minus 1380304110 9 ∷ []) ∷
    (minus 395548410 9 ∷ minus 626398537 9 ∷ minus 1484059291 9 ∷ minus 3041216688 9 ∷ []) ∷
    (minus 2905719617 9 ∷ minus 1778798984 9 ∷ minus 1556827067 9 ∷ minus 4308085347 9 ∷ []) ∷
    (plus 429154871 9 ∷ plus 20765871545 9 ∷ plus 9341250676 9 ∷ minus 33787719418 9 ∷ []) ∷
    []
unfolding round of_bits
wca_constants_eta_a_digits = refl

wca_constants_eta_b_digits : T.wca_constants_eta_b
    ≡ (minus 883143456 9 ∷ minus 618156214 9 ∷ []) ∷
    (minus 589914255 9 ∷ minus 3015264636 9 ∷ []) ∷
    (minus 2152046477 9 ∷ plus 47038689542 10 ∷ []) ∷
    []
unfolding round of_bits
wca_constants_eta_b_digits = refl

wca_constants_eta_a_uvb3_digits : T.wca_constants_eta_a_uvb3
    ≡ (plus 264043218 8 ∷ minus 12184421 7 ∷ minus 2290786387 8 ∷ plus 96433414 8 ∷ []) ∷
    (minus 1675643936 8 ∷ plus 3083929771 8 ∷ plus 7308711814 8 ∷ minus 16657701616 8 ∷ []) ∷
    (plus 1953170162 8 ∷ minus 8887955657 8 ∷ minus 7651387192 8 ∷ plus 44368942745 8 ∷ []) ∷
    (minus 377740877 8 ∷ plus 8304694547 8 ∷ plus 2162502721 8 ∷ minus 3048643176 7 ∷ []) ∷
    []
unfolding round of_bits
wca_constants_eta_a_uvb3_digits = refl

wca_constants_eta_b_uvb3_digits : T.wca_constants_eta_b_uvb3
    ≡ (plus 219821588 8 ∷ minus 2045005484 8 ∷ []) ∷
    (minus 1347050687 8 ∷ plus 5665701375 8 ∷ []) ∷
    (plus 1290119266 8 ∷ minus 4271680606 8 ∷ []) ∷
    []
unfolding round of_bits
wca_constants_eta_b_uvb3_digits = refl

-- ---- uvtheory/eos/wca/attractive_perturbation.rs
c_wca_digits : T.c_wca
    ≡ (minus 2622378162 10 ∷ plus 6585817423 10 ∷ plus 55318022309 10 ∷ plus 6902354794 10 ∷ minus 36825190645 10 ∷ minus 17263213318 10 ∷ []) ∷
    (minus 1899241690 10 ∷ minus 5555205158 10 ∷ plus 91361398949 10 ∷ plus 7966155658 10 ∷ minus 61413017045 10 ∷ plus 49553415149 10 ∷ []) ∷
    (plus 1169786415 10 ∷ minus 2216804790 10 ∷ minus 20470861617 10 ∷ minus 3742261343 10 ∷ plus 9568416381 10 ∷ plus 101401796764 10 ∷ []) ∷
    (plus 5852642702 10 ∷ plus 20795520346 10 ∷ plus 190711829725 10 ∷ minus 23403594600 10 ∷ plus 25833371420 10 ∷ plus 4323858674425 10 ∷ []) ∷
    (minus 6084232211 10 ∷ minus 72376034572 10 ∷ plus 190412933614 10 ∷ plus 32388986513 10 ∷ plus 754442555789 10 ∷ minus 5883837110653 10 ∷ []) ∷
    (plus 512327656 10 ∷ plus 66667943569 10 ∷ plus 471109947616 10 ∷ minus 5011125797 10 ∷ minus 348918383146 10 ∷ plus 1895498636006 10 ∷ []) ∷
    []
unfolding round of_bits
c_wca_digits = refl

cu_wca_digits : T.cu_wca
    ≡ plus 14419 4 ∷ plus 11169 4 ∷ plus 168810 4 ∷ []
unfolding round of_bits
cu_wca_digits = refl

c2_wca_digits : T.c2_wca
    ≡ (plus 145805207053190 17 ∷ plus 357786067657446 16 ∷ []) ∷
    (plus 125869266841313 18 ∷ plus 179889086453277 17 ∷ []) ∷
    (plus 0 1 ∷ plus 0 1 ∷ []) ∷
    []
unfolding round of_bits
c2_wca_digits = refl

-- ---- uvtheory/eos/wca/attractive_perturbation_uvb3.rs
c_b2_rsap_digits : T.c_b2_rsap
    ≡ (minus 63550989 9 ∷ plus 6206829830 9 ∷ minus 3745829549 8 ∷ plus 4072849774 8 ∷ []) ∷
    (plus 1519053409 9 ∷ plus 1314989643 8 ∷ plus 8535058674 8 ∷ plus 3741906360 7 ∷ []) ∷
    (plus 693456220 9 ∷ plus 9459946180 9 ∷ minus 5328984218 8 ∷ plus 3158199084 7 ∷ []) ∷
    (plus 7492596 9 ∷ plus 546171170 9 ∷ plus 7979562575 9 ∷ minus 1196126395 7 ∷ []) ∷
    []
unfolding round of_bits
c_b2_rsap_digits = refl

k_lj_b3_digits : T.k_lj_b3
    ≡ minus 39806 4 ∷ plus 79565 3 ∷ plus 5489 4 ∷ plus 53632 4 ∷ plus 14245 4 ∷ plus 57292 3 ∷ plus 0 1 ∷ plus 10031 4 ∷ minus 39755 3 ∷ minus 81213 3 ∷ plus 6987 4 ∷ plus 30156 3 ∷ minus 23692 3 ∷ minus 85006 3 ∷ plus 7762 4 ∷ plus 12798 3 ∷ []
unfolding round of_bits
k_lj_b3_digits = refl

p_b3_digits : T.p_b3
    ≡ plus 80844 5 ∷ minus 9541 5 ∷ plus 47525 5 ∷ minus 283283 5 ∷ []
unfolding round of_bits
p_b3_digits = refl

l_b3_digits : T.l_b3
    ≡ plus 49485 4 ∷ minus 213 1 ∷ plus 70 1 ∷ plus 32162 4 ∷ []
unfolding round of_bits
l_b3_digits = refl

m_b3_digits : T.m_b3
    ≡ plus 11853 5 ∷ plus 78556 6 ∷ minus 55039 5 ∷ plus 9163 6 ∷ []
unfolding round of_bits
m_b3_digits = refl

cu_wca_uvb3_digits : T.cu_wca_uvb3
    ≡ plus 26454 3 ∷ plus 18045 4 ∷ plus 17997 4 ∷ plus 16196 2 ∷ plus 11605 3 ∷ plus 12 0 ∷ plus 4 1 ∷ plus 20 1 ∷ []
unfolding round of_bits
cu_wca_uvb3_digits = refl
