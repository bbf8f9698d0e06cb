mod PrintWords
mod Lists
mod PeriodWords
