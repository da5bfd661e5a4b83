mod SumLemmas
